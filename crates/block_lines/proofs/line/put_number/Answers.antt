-- Each store is a call, in the order of the layout.
use Rattle.cond.proofs.Kit.{arith}
use Rattle.forms.specs.Places.{layout_width}
use Rattle.block_lines.proofs.Laid.{number_stores}
use Rattle.block_lines.proofs.line.put_number.Goals as goal

pub returns : goal.returns
returns c f v e = (unfold layout_width in omega arith, cc (number_stores _ _ v _ f _ e))
