-- The records of the filled part are written, and its last bytes carried; where the records are refused nothing is changed.
use Rattle.std.proofs.lemmas.Result.{err_from_is_err_and}
use Rattle.report.proofs.Reported.{not_reported, reported_lem}
use Rattle.report.proofs.piece.report_piece.Goals as goal

pub returns-in_err-report : goal.returns-in_err-report
returns-in_err-report c = let a = c.args in
    let p = err_from_is_err_and c.from_residual.result c.from_residual.ensures.1 in
    rw (p.1, p.2) (not_reported a.form a.carried a.got _ a.buffer.now c.filled-end.ensures c.write_records.ensures c.in_err-report.was)

pub returns : goal.returns
returns c = let a = c.args in
    reported_lem a.form a.carried a.got _ a.buffer.now c.filled-end.ensures c.write_records.ensures c.in_ok-report.was c.carry_over.ensures
