-- The bytes that tell the piece lie in the output, and there is room for every piece.
use Rattle.cond.proofs.Kit.{arith, length-take, length-take-le, refl, sym}
use Rattle.std.proofs.lemmas.Result.{err_from_is_err_and}
use Rattle.report.proofs.Answered.{not_refused_lem, written_inside, written_text}
use Rattle.report.proofs.Whole.{slice_heard}
use Rattle.heard.specs.Output.{records}
use Rattle.heard.proofs.print_piece.Goals as goal

pub slice_bounds-print-end : goal.slice_bounds-print-end
slice_bounds-print-end g c = written_inside c.report_piece.ensures c.in-Ok.is

pub slice_bounds-print-end-in-Ok : goal.slice_bounds-print-end-in-Ok
slice_bounds-print-end-in-Ok g c = sym (length-take-le _ _ (written_inside c.report_piece.ensures c.in-Ok.is))

pub print-requires : goal.print-requires
print-requires g c = records (slice_heard (rw c.in-Ok.is at c.report_piece.ensures))

pub returns-in_ok-print-in-Ok-clause-reported : goal.returns-in_ok-print-in-Ok-clause-reported
returns-in_ok-print-in-Ok-clause-reported g c = (_, rw c.in-Ok.is at c.report_piece.ensures)

pub returns-in_ok-print-in-Ok-clause-told : goal.returns-in_ok-print-in-Ok-clause-told
returns-in_ok-print-in-Ok-clause-told g c =
    let h = rw c.in-Ok.is at c.report_piece.ensures in
    rw (written_text h refl) at c.in_ok-print-in-Ok.ensures

pub returns-in-Err-clause-reported : goal.returns-in-Err-clause-reported
returns-in-Err-clause-reported g c =
    let p = c.requires in
    absurd (not_refused_lem c.report_piece.ensures p.0 (rw length-take (omega arith)) c.in-Err.is)

pub returns-in-Err-clause-told : goal.returns-in-Err-clause-told
returns-in-Err-clause-told g c =
    let p = c.requires in
    absurd (not_refused_lem c.report_piece.ensures p.0 (rw length-take (omega arith)) c.in-Err.is)

pub returns-in_err-print-in-Ok-clause-err : goal.returns-in_err-print-in-Ok-clause-err
returns-in_err-print-in-Ok-clause-err g c =
    let p = err_from_is_err_and c.from_residual.result c.from_residual.ensures.1 in
    rw p.1 (_, _, _, rw c.in-Ok.is at c.report_piece.ensures)
