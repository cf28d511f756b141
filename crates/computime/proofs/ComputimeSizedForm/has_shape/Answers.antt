-- Each part of the test is a call, in the order of the layout; three numbers with colons between them are one.
use Rattle.cond.proofs.Kit.{and_assoc, and-true}
use Rattle.forms.specs.Places.{shape}
use Rattle.computime.proofs.ComputimeSizedForm.has_shape.Goals as goal

pub returns : goal.returns
unfolding shape
returns c = simp (and_assoc, and-true)
    (simp (c.text_at.ensures, c.pairs_at.ensures, c.is_at.ensures)
    (simp (c.digits_at.ensures, c.is_at-2.ensures, c.pairs_at-2.ensures)
    (simp (c.text_at-2.ensures, and_assoc))))
