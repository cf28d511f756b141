-- The three parts one behind the other are the block's layout, and none of them is written where there are fewer than 175 bytes.
use Rattle.cond.proofs.Kit.{arith, le-leb}
use Rattle.forms.specs.Block.{block_of}
use Rattle.block.proofs.Layouts.{whole_block}
use Rattle.block.proofs.Lent.{laid_next}
use Rattle.block.proofs.writer.put.Goals as goal

pub returns : goal.returns
unfolding block_of
returns c = let e2 = laid_next _ _ _ _ _ _ _ _ (omega arith) c.write_first-fix.ensures.0 c.write_middle.ensures.0 in
    let e3 = rw (whole_block c.args.r) at (laid_next _ _ _ _ _ _ _ _ (omega arith) e2 c.write_last.ensures.0) in
    let t = le-leb 175 _ c.if-out-lt175.false in
    record { size = simp t e3.0; left = simp t e3.1 }
