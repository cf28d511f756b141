-- The run over all bytes is the run over those that are left, behind those that were answered by nothing.
use Rattle.cond.proofs.Kit.{◌∙◌, arith, length-set, refl, sym}
use Rattle.listener.proofs.Steps.{passed}
use Rattle.lindenscoop.specs.Run.{joined}
use Rattle.lindenscoop.proofs.Chained.{next_long}
use Rattle.lindenscoop.proofs.Runs.{all_fed, answered, goes_on}
use Rattle.lindenscoop.proofs.run.feed_until.Goals as goal

pub bounds-bytes-moved : goal.bounds-bytes-moved
bounds-bytes-moved c = let q = c.loop-i in
    let shape = c.shape_of-shape.ensures in
    (passed (joined _ q.bytes q.at q.kept q.distance) _ q.invariant.1 shape c.passing_of.ensures c.in-Some.is).0

pub loop-i-preserved-in-Some : goal.loop-i-preserved-in-Some
loop-i-preserved-in-Some c = let q = c.loop-i in
    let shape = c.shape_of-shape.ensures in
    let l = joined _ q.bytes q.at q.kept q.distance in
    let fed = (passed l _ q.invariant.1 shape c.passing_of.ensures c.in-Some.is).1 in
    (omega arith, simp length-set q.invariant.1, goes_on _ l _ q.i q.invariant.2 (omega arith) fed refl)

pub returns-then-is_answer : goal.returns-then-is_answer
returns-then-is_answer c = let q = c.loop-i in
    let fed = rw c.joined.ensures at c.feed_end-fed.ensures in
    let some = sym c.is_answer.ensures ∙ c.if-is_answer.true in
    rw c.ended.ensures (answered _ _ _ q.i q.invariant.2 (omega arith) fed some)

pub loop-i-preserved : goal.loop-i-preserved
loop-i-preserved c = let q = c.loop-i in
    let fed = rw c.joined.ensures at c.feed_end-fed.ensures in
    let none = sym c.is_answer.ensures ∙ c.if-is_answer.false in
    (omega arith, rw fed.next (next_long _ _ q.invariant.1), goes_on _ _ _ q.i q.invariant.2 (omega arith) fed none)

pub returns : goal.returns
returns c = let q = c.loop-i in
    rw (c.ended-2.ensures, c.joined-2.ensures) (all_fed _ _ _ q.i q.invariant.2 (omega arith))
