-- Each case of the field has its own variant, which the callee stores.
use Rattle.cond.proofs.Kit.{arith}
use Rattle.forms.specs.Encode.{encode}
use Rattle.forms.specs.Places.{layout_width}
use Rattle.block_lines.proofs.Laid.{within}
use Rattle.block_lines.proofs.offset.write_offset.Goals as goal

pub returns-in-None : goal.returns-in-None
returns-in-None c = simp c.in-None.is (within _ _ _ _ _ _ (c.put_word.ensures (encode c.args.r)) (unfold layout_width in omega arith))

pub returns-in-Some : goal.returns-in-Some
returns-in-Some c = simp c.in-Some.is (within _ _ _ _ _ _ c.put_offset.ensures (unfold layout_width in omega arith))
