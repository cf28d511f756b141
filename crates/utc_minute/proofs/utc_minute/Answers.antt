-- Both sums stay below 2,880, and the test and the numbers of the code are those of the definition.
use Rattle.cond.proofs.Kit.{◌∙◌, sym, to_z-of_z}
use Rattle.utc_minute.specs.Minute.{utc_minute}
use Rattle.utc_minute.proofs.utc_minute.Goals as goal

pub returns-then-is_negative : goal.returns-then-is_negative
unfolding utc_minute
returns-then-is_negative c = let same = to_z-of_z c.ranges.offset in
    simp (c.magnitude-minutes.ensures, same, rw same at (sym c.is_negative.ensures ∙ c.if-is_negative.true))

pub returns-else-is_negative : goal.returns-else-is_negative
unfolding utc_minute
returns-else-is_negative c = let same = to_z-of_z c.ranges.offset in
    simp (c.magnitude-minutes.ensures, same, rw same at (sym c.is_negative.ensures ∙ c.if-is_negative.false))
