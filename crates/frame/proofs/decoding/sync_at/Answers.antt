-- The branch is the test of the definition.
use Rattle.cond.proofs.Kit.{eq-eqb, ne_eqb}
use Rattle.spelling.specs.Bytes.{groups_width}
use Rattle.forms.specs.Fields.Flag.{decode_flag}
use Rattle.forms.specs.Places.{values}
use Rattle.frame.proofs.decoding.sync_at.Goals as goal

pub returns-then-tfom-eq0 : goal.returns-then-tfom-eq0
unfolding values groups_width decode_flag
returns-then-tfom-eq0 c = simp (← c.number_at-tfom.ensures.0, eq-eqb _ 0 c.if-tfom-eq0.true)

pub returns-else-tfom-eq0 : goal.returns-else-tfom-eq0
unfolding values groups_width decode_flag
returns-else-tfom-eq0 c = simp (← c.number_at-tfom.ensures.0, ne_eqb _ 0 c.if-tfom-eq0.false)
