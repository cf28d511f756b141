-- Each number of minutes is one of the layout.
use Rattle.forms.specs.Places.{values}
use Rattle.rmc.proofs.angles.arcs_in_range.Goals as goal

pub returns : goal.returns
unfolding values
returns c = simp (c.number_at-2.ensures.0, c.number_at.ensures.0)
