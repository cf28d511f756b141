-- The layout is its pieces and the seconds of the day, one behind the other.
use Rattle.cond.proofs.Kit.{and_assoc, and-true}
use Rattle.forms.specs.Places.{shape}
use Rattle.spelling.specs.Bytes.{groups_width}
use Rattle.frame.proofs.FrameSizedForm.has_shape.Goals as goal

pub returns : goal.returns
unfolding shape groups_width
returns c = simp (and_assoc, and-true)
    (simp (c.has_time.ensures, c.has_date.ensures, c.has_zone.ensures)
    (simp (c.pair_at.ensures 512, c.is_at.ensures, c.is_at-2.ensures, and_assoc)))
