-- Each number is a call.
use Rattle.spelling.specs.Bytes.{groups_width}
use Rattle.forms.specs.Form.{numbers_in_range}
use Rattle.forms.specs.Places.{values}
use Rattle.frame.proofs.validation.numbers_in_range.Goals as goal

pub returns : goal.returns
unfolding numbers_in_range values groups_width
returns c = simp (c.number_at-tfom.ensures.0, c.number_at.ensures.0)
