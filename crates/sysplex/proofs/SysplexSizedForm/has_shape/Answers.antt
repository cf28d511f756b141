-- Each part of the test is a call, in the order of the layout; three numbers with colons between them are one.
use Rattle.cond.proofs.Kit.{and_assoc, and-true}
use Rattle.forms.specs.Places.{shape}
use Rattle.sysplex.proofs.SysplexSizedForm.has_shape.Goals as goal

pub returns : goal.returns
unfolding shape
returns c = simp (and_assoc, and-true)
    (simp (c.is_at.ensures, c.digits_at.ensures, c.is_at-2.ensures)
    (simp (c.pairs_at.ensures, c.letter_at.ensures, c.text_at.ensures, and_assoc)))
