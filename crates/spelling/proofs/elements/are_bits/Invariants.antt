-- All bytes meet the test where those passed did and those not passed yet do.
use Rattle.cond.proofs.Kit.{◌&&◌, ◌≡◌, drop}
use Rattle.spelling.specs.Bytes.{all_are, is_bit}
use Rattle.spelling.proofs.elements.are_bits.Given as goal

abbrev pub invariant-loop-b : goal.invariant-loop-b
invariant-loop-b l = all_are is_bit l.s ≡ (l.held && all_are is_bit (drop l.b-index l.s))
