-- Each part of the test is a call, in the order of the layout.
use Rattle.cond.proofs.Kit.{and_assoc, and-true}
use Rattle.forms.specs.Places.{shape}
use Rattle.spa.proofs.SpaSizedForm.has_shape.Goals as goal

pub returns : goal.returns
unfolding shape
returns c = simp (and_assoc, and-true)
    (simp (c.is_at-6.ensures, c.hex_at.ensures, c.is_at-5.ensures, c.digits_at-4.ensures, c.is_at-4.ensures)
    (simp (c.digits_at-3.ensures, c.is_at-3.ensures, c.digits_at-2.ensures, c.is_at-2.ensures)
    (simp (c.digits_at.ensures, c.is_at.ensures, c.pairs_at.ensures, c.text_at.ensures, and_assoc))))
