-- Each part of the test is a call, in the order of the layout; the last one tests the layout's end.
use Rattle.cond.proofs.Kit.{and_assoc}
use Rattle.forms.specs.Places.{shape}
use Rattle.standard.proofs.StandardSizedForm.has_shape.Goals as goal

pub returns : goal.returns
unfolding shape
returns c =
    simp and_assoc
    (simp (c.text_at.ensures, c.pairs_at.ensures, c.text_at-2.ensures, c.digits_at.ensures, c.text_at-3.ensures)
    (simp (c.pairs_at-2.ensures, c.is_at.ensures, c.has_letters.ensures, and_assoc)))
