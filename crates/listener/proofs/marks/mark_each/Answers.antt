-- Each turn stores the mark of one byte and leaves the state that the byte left; at the end every byte has its mark.
use Rattle.cond.proofs.Kit.{◌∙◌, arith, length-set, refl, rules, sym}
use Rattle.listener.proofs.Marking.{mark_end, mark_step}
use Rattle.listener.proofs.Steps.{passed}
use Rattle.listener.proofs.marks.mark_each.Invariants.{state}
use Rattle.listener.proofs.marks.mark_each.Goals as goal

pub bounds-bytes-moved : goal.bounds-bytes-moved
bounds-bytes-moved c =
    let q = c.loop-i in
    (passed (state _ q.bytes q.at q.kept q.distance) _ q.invariant.2 c.shape_of-shape.ensures c.passing_of.ensures c.in-Some.is).0

pub loop-i-preserved-in-Some : goal.loop-i-preserved-in-Some
loop-i-preserved-in-Some c =
    let q = c.loop-i in
    let l = state _ q.bytes q.at q.kept q.distance in
    let fed = (passed l _ q.invariant.2 c.shape_of-shape.ensures c.passing_of.ensures c.in-Some.is).1 in
    (omega arith, simp length-set q.invariant.1, simp length-set q.invariant.2, q.invariant.3 ∙ mark_step q.marks l _ q.i (omega arith) fed refl)

pub loop-i-preserved : goal.loop-i-preserved
loop-i-preserved c =
    let q = c.loop-i in
    (omega arith, simp length-set q.invariant.1, search rules, q.invariant.3 ∙ mark_step q.marks _ _ q.i (omega arith) c.feed_end-fed.ensures c.mark_of.ensures)

pub returns : goal.returns
returns c =
    let q = c.loop-i in
    sym (q.invariant.3 ∙ mark_end q.marks _ _ q.i (omega arith))
