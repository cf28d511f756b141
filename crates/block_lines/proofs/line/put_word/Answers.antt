-- Each store is a call, in the order of the layout.
use Rattle.cond.proofs.Kit.{arith}
use Rattle.forms.specs.Places.{layout_width}
use Rattle.block_lines.proofs.Laid.{word_stores}
use Rattle.block_lines.proofs.line.put_word.Goals as goal

pub returns : goal.returns
returns c v = (unfold layout_width in omega arith, cc (word_stores _ _ v _))
