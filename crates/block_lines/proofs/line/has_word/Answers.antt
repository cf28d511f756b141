-- Each part of the test is a call.
use Rattle.cond.proofs.Kit.{and_assoc, sym}
use Rattle.block_lines.proofs.Closed.{word_shape}
use Rattle.block_lines.proofs.line.has_word.Goals as goal

pub returns : goal.returns
returns c = simp and_assoc (simp (c.is_at.ensures, c.text_at-2.ensures, c.text_at.ensures) (sym (word_shape _ _ _)))
