-- The parts are stored one behind the other where there is room for all of them.
use Rattle.cond.proofs.Kit.{◌∙◌, arith}
use Rattle.report.proofs.Line.{ended, no_room}
use Rattle.report.proofs.summary.write_end.Goals as goal

pub returns-then-out-end : goal.returns-then-out-end
returns-then-out-end c = let a = c.args in
    no_room a.bytes a.telegrams _ _ c.places-b.ensures.0 c.places-t.ensures.0 a.out.now (omega arith)

pub returns : goal.returns
returns c = let a = c.args in
    ended a.bytes a.telegrams _ _ c.places-b.ensures.0 c.places-t.ensures.0 a.out.now (omega arith) _
    (c.put_byte.ensures
    ∙ rw (c.put_count-2.ensures, c.put_bytes-2.ensures, c.put_count.ensures, c.put_bytes.ensures))
