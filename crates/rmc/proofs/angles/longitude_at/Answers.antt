-- The degrees, the minutes and the hundredths are numbers of the layout, and far below what 32 bits hold.
use Rattle.cond.proofs.Kit.{arith}
use Rattle.spelling.specs.Spelling.{value_of}
use Rattle.forms.specs.Places.{values}
use Rattle.rmc.proofs.angles.longitude_at.Goals as goal

pub returns : goal.returns
unfolding values value_of
returns c = (simp (c.arc_at.ensures.0, c.number_at.ensures.0), omega (arith, c.arc_at.ensures, c.number_at.ensures))
