-- Each digit is read at its own place, and the branch is the test of the digits.
use Rattle.cond.proofs.Kit.{add-zero, and_assoc, and-true, mul-zero, arith}
use Rattle.spelling.specs.Bytes.{groups_limit, groups_width}
use Rattle.forms.specs.Places.{values}
use Rattle.frame.specs.Layouts.{days}
use Rattle.frame.proofs.Digits.{below_at, groups_value, sum_at}
use Rattle.frame.proofs.groups.day_of_year.Goals as goal

pub returns-then-units-tens : goal.returns-then-units-tens
unfolding below_at sum_at values groups_limit groups_width
returns-then-units-tens c = simp (groups_value 10 days 30 c.args.s.now (omega arith))
    (simp (← c.number_at-units.ensures.1, ← c.number_at-tens.ensures.1, ← c.number_at-hundreds.ensures.1)
    (simp (and-true, mul-zero, add-zero, simp and_assoc at c.if-units-tens.true)))

pub returns-else-units-tens : goal.returns-else-units-tens
unfolding below_at sum_at values groups_limit groups_width
returns-else-units-tens c = simp (groups_value 10 days 30 c.args.s.now (omega arith))
    (simp (← c.number_at-units.ensures.1, ← c.number_at-tens.ensures.1, ← c.number_at-hundreds.ensures.1)
    (simp (and-true, simp and_assoc at c.if-units-tens.false)))
