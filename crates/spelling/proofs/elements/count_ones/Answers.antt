-- The ones counted and those of the elements not passed yet are all.
use Rattle.cond.proofs.Kit.{ap, arith, eq-eqb, get_or, List, ne_eqb, ℕ}
use Rattle.cond.specs.Pick.{one_if}
use Rattle.spelling.specs.Bytes.{ones}
use Rattle.spelling.proofs.Steps.{next, none_left}
use Rattle.spelling.proofs.elements.count_ones.Goals as goal
use Rattle.spelling.proofs.elements.count_ones.Goals.{then-element-eq1, else-element-eq1}

pub loop-element-preserved : goal.loop-element-preserved
unfolding ones
loop-element-preserved c = let a = c.loop-element in
    let s : List ℕ = c.args.s.now in
    let e = next ones s a.element-index (omega arith) in
    elim c.if-element-eq1.branch [
      | then-element-eq1 w ↦ (omega arith, omega (arith, ap one_if (eq-eqb (get_or s a.element-index 0) 1 w.if-element-eq1.true)))
      | else-element-eq1 w ↦ (omega arith, omega (arith, ap one_if (ne_eqb (get_or s a.element-index 0) 1 w.if-element-eq1.false)))
    ]

pub returns : goal.returns
unfolding ones
returns c = omega (arith, none_left ones c.args.s.now c.loop-element.element-index (omega arith))
