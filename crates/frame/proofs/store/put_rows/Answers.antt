-- The loop's invariant: the rows passed are stored from the head on, ten elements each.
use Rattle.cond.proofs.Kit.{◌∙◌, ◌<◌, ◌≡◌, ap, arith, length, length-sets, rules, refl, sets-eq, take-length}
use Rattle.frame.specs.Tens.{joined}
use Rattle.frame.proofs.Elements.{next_length, next_stored}
use Rattle.frame.proofs.store.put_rows.Goals as goal

pub loop-i-init : goal.loop-i-init
unfolding joined
loop-i-init c = (search rules, refl, refl, refl)

pub loop-i-preserved : goal.loop-i-preserved
unfolding joined
loop-i-preserved c = let b = c.loop-i in
    let a = c.args in
    let l : length a.rows ≡ 10 = search rules in
    let inside : b.i < length a.rows = omega arith in
    let stored = c.put_row.ensures in (
      omega arith,
      ap length stored.0 ∙ simp length-sets b.invariant.1,
      next_length a.rows b.i inside b.invariant.2 stored.1,
      stored.0 ∙ rw b.invariant.3 (next_stored a.rows b.i inside b.invariant.2 a.out.now),
    )

pub returns : goal.returns
unfolding joined
returns c = let b = c.loop-i in
    let a = c.args in
    let l : length a.rows ≡ 10 = search rules in
    let e : b.i ≡ length a.rows = omega arith in
    let long : length (joined a.rows) ≡ 100 = rw (e, take-length, l) at b.invariant.2 in
    (rw (e, take-length) at b.invariant.3) ∙ sets-eq (joined a.rows) a.out.now 0 (omega arith) ∙ rw long
