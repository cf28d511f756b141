-- Each piece of the layout is a call, and so are its last two places.
use Rattle.cond.proofs.Kit.{and_assoc, and-true}
use Rattle.forms.specs.Places.{shape}
use Rattle.rmc.proofs.RmcSizedForm.has_shape.Goals as goal

pub returns : goal.returns
unfolding shape
returns c = simp and_assoc
    (simp (c.is_time.ensures, c.is_latitude.ensures, c.is_longitude.ensures, c.is_date.ensures)
    (simp (c.hex_at.ensures, c.text_at.ensures) (simp (and_assoc, and-true))))
