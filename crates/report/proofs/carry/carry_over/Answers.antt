-- The last bytes of the filled part are moved to the head; where there is no such form none are.
use Rattle.cond.proofs.Kit.{◌∙◌, sym}
use Rattle.report.proofs.Moved.{carried, none_carried}
use Rattle.report.proofs.carry.carry_over.Goals as goal

pub returns-then-n-eq0 : goal.returns-then-n-eq0
returns-then-n-eq0 c = let a = c.args in
    none_carried a.form a.end a.buffer.now (sym c.length_of-n.ensures ∙ c.if-n-eq0.true)

pub returns : goal.returns
returns c = let a = c.args in
    let n = c.length_of-n.ensures in
    carried a.form a.end a.buffer.now _ _ c.min-filled.ensures
    (c.min-k.ensures ∙ rw n) _ c.move_to_head.ensures
