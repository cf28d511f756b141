-- All bytes meet the test where those passed did and those not passed yet do.
use Rattle.cond.proofs.Kit.{◌&&◌, ◌≡◌, drop}
use Rattle.spelling.specs.Bytes.{all_are, is_digit}
use Rattle.spelling.proofs.decimal.are_digits.Given as goal

abbrev pub invariant-loop-b : goal.invariant-loop-b
invariant-loop-b l = all_are is_digit l.s ≡ (l.held && all_are is_digit (drop l.b-index l.s))
