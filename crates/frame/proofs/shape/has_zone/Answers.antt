-- Each part of the test is a call, in the order of the piece.
use Rattle.spelling.specs.Bytes.{letters}
use Rattle.cond.proofs.Kit.{and_assoc, and-true}
use Rattle.forms.specs.Places.{shape}
use Rattle.frame.proofs.shape.has_zone.Goals as goal

pub returns : goal.returns
unfolding shape letters
returns c = simp (and_assoc, and-true)
    (simp (c.bits_at.ensures, c.bits_at-2.ensures, c.bits_at-3.ensures)
    (simp (c.bits_at-4.ensures, c.bits_at-5.ensures, c.bits_at-6.ensures)
    (simp (c.is_at.ensures, c.letter_at.ensures, c.bits_at-7.ensures)
    (simp (c.bits_at-8.ensures, c.text_at.ensures, c.is_at-2.ensures)))))
