-- Each part of the test is a call.
use Rattle.cond.proofs.Kit.{and_assoc, sym}
use Rattle.block_lines.proofs.Closed.{number_shape}
use Rattle.block_lines.proofs.line.has_number.Goals as goal

pub returns : goal.returns
returns c f = simp and_assoc (simp (c.is_at.ensures, c.digits_at.ensures, c.text_at.ensures) (sym (number_shape _ _ _ f)))
