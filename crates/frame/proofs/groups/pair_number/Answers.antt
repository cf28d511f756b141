-- Each digit is read at its own place, and the branch is the test of the digits.
use Rattle.spelling.specs.Bytes.{groups_width}
use Rattle.cond.proofs.Kit.{add-zero, and-true, arith, mul-zero}
use Rattle.frame.specs.Layouts.{pair}
use Rattle.frame.proofs.Digits.{below_at, groups_value, pair_lt, sum_at}
use Rattle.frame.proofs.groups.pair_number.Goals as goal

pub returns-then-lower-base : goal.returns-then-lower-base
unfolding below_at sum_at groups_width
returns-then-lower-base c = let a = c.args in (
  λ e h. simp (groups_value a.base (pair a.low e a.high) a.at a.s.now (omega arith))
      (simp (← c.number_at-lower.ensures.1, ← c.number_at-upper.ensures.1, and-true, mul-zero, add-zero, c.if-lower-base.true)),
  omega (arith, pair_lt _ _ _ c.requires.3 c.if-lower-base.true),
)

pub returns-else-lower-base : goal.returns-else-lower-base
unfolding below_at groups_width
returns-else-lower-base c = let a = c.args in (
  λ e h. simp (groups_value a.base (pair a.low e a.high) a.at a.s.now (omega arith))
      (simp (← c.number_at-lower.ensures.1, ← c.number_at-upper.ensures.1, and-true, c.if-lower-base.false) h),
  omega arith,
)
