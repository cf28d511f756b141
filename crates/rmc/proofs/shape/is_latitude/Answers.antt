-- Each part of the test is a call, in the order of the layout's piece.
use Rattle.cond.proofs.Kit.{and_assoc, and-true}
use Rattle.forms.specs.Places.{shape}
use Rattle.rmc.proofs.shape.is_latitude.Goals as goal

pub returns : goal.returns
unfolding shape
returns c = simp and_assoc
    (simp (c.digits_at.ensures, c.is_arc.ensures, c.is_at.ensures, c.letter_at.ensures, c.is_at-2.ensures)
    (simp (and_assoc, and-true)))
