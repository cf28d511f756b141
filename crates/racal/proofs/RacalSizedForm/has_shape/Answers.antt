-- Each part of the test is a call, in the order of the layout.
use Rattle.cond.proofs.Kit.{and_assoc, and-true}
use Rattle.forms.specs.Places.{shape}
use Rattle.racal.proofs.RacalSizedForm.has_shape.Goals as goal

pub returns : goal.returns
unfolding shape
returns c = simp (and_assoc, and-true)
    (simp (c.text_at-2.ensures, c.digits_at-6.ensures, c.digits_at-5.ensures, c.digits_at-4.ensures)
    (simp (c.digits_at-3.ensures, c.digits_at-2.ensures, c.digits_at.ensures, c.text_at.ensures)))
