-- Each line stands behind those before it, and together they are this part of the block.
use Rattle.cond.proofs.Kit.{append_assoc, append-nil, arith}
use Rattle.forms.specs.Block.{chosen_layout}
use Rattle.forms.specs.Slots.{sync}
use Rattle.block_lines.specs.Flags.{flag_in}
use Rattle.block.proofs.Layouts.{flag_laid}
use Rattle.block.proofs.Lent.{laid_next}
use Rattle.block.proofs.writer.write_first.Goals as goal

pub returns : goal.returns
unfolding chosen_layout flag_in
returns c = let r = c.args.r in
    let e1 = c.write_date-time.ensures.0 in
    let e2 = laid_next _ _ _ _ _ _ _ _ (omega arith) e1 c.write_time.ensures.0 in
    let e3 = laid_next _ _ _ _ _ _ _ _ (omega arith) e2 c.write_fraction.ensures.0 in
    let e4 = laid_next _ _ _ _ _ _ _ _ (omega arith) e3 c.write_channel.ensures.0 in
    let e5 = laid_next _ _ _ _ _ _ _ _ (omega arith) e4 (flag_laid "sync=" sync r.sync _ _ _ _ c.write_flag.ensures.0) in
    (simp append-nil (simp append_assoc at e5), omega arith)
