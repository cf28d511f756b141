-- Each part of the test is a call, in the order of the layout.
use Rattle.cond.proofs.Kit.{and_assoc, and-true}
use Rattle.forms.specs.Places.{shape}
use Rattle.block_lines.proofs.minutes.has_position.Goals as goal

pub returns : goal.returns
unfolding shape
returns c = simp and_assoc
    (simp (c.is_at-2.ensures, c.has_minutes-2.ensures, c.is_at.ensures, c.has_minutes.ensures, c.text_at.ensures) (simp (and_assoc, and-true)))
