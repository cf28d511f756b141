-- The hours and the half hour are the two calls.
use Rattle.cond.proofs.Kit.{arith}
use Rattle.spelling.specs.Bytes.{groups_width}
use Rattle.forms.specs.Fields.Offset.{decode_minutes}
use Rattle.forms.specs.Places.{values}
use Rattle.frame.proofs.decoding.offset_minutes.Goals as goal

pub returns : goal.returns
unfolding values groups_width decode_minutes
returns c = (simp (c.number_at.ensures.0, c.half_hour.ensures.0), omega arith)
