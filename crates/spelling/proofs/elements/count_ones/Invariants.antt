-- The ones counted and those of the elements not passed yet are all.
use Rattle.cond.proofs.Kit.{◌+◌, ◌≡◌, ◌≤◌, drop}
use Rattle.spelling.specs.Bytes.{ones}
use Rattle.spelling.proofs.elements.count_ones.Given as goal

abbrev pub invariant-loop-element : goal.invariant-loop-element
invariant-loop-element l = (l.ones ≤ l.element-index) × (ones l.s ≡ l.ones + ones (drop l.element-index l.s))
