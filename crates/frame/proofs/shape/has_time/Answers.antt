-- Each part of the test is a call, in the order of the piece.
use Rattle.cond.proofs.Kit.{and_assoc, and-true}
use Rattle.forms.specs.Places.{shape}
use Rattle.spelling.specs.Bytes.{groups_width}
use Rattle.frame.proofs.shape.has_time.Goals as goal

pub returns : goal.returns
unfolding shape groups_width
returns c = simp (and_assoc, and-true)
    (simp (c.is_at.ensures, c.pair_at.ensures 10, c.is_at-2.ensures)
    (simp (c.pair_at-2.ensures 10, c.is_at-3.ensures, c.is_at-4.ensures)
    (simp (c.pair_at-3.ensures 10, c.text_at.ensures, c.is_at-5.ensures))))
