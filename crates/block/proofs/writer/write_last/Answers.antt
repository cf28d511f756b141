-- Each line stands behind those before it, and together they are this part of the block.
use Rattle.cond.proofs.Kit.{append_assoc, append-nil, arith}
use Rattle.forms.specs.Block.{chosen_layout}
use Rattle.forms.specs.Slots.{dsp, lsp}
use Rattle.block_lines.specs.Flags.{flag_in}
use Rattle.block.proofs.Layouts.{flag_laid}
use Rattle.block.proofs.Lent.{laid_next}
use Rattle.block.proofs.writer.write_last.Goals as goal

pub returns : goal.returns
unfolding chosen_layout flag_in
returns c = let r = c.args.r in
    let e1 = c.write_offset-position.ensures.0 in
    let e2 = laid_next _ _ _ _ _ _ _ _ (omega arith) e1 c.write_position.ensures.0 in
    let e3 = laid_next _ _ _ _ _ _ _ _ (omega arith) e2 (flag_laid "dsp=" dsp r.dsp _ _ _ _ c.write_flag.ensures.0) in
    let e4 = laid_next _ _ _ _ _ _ _ _ (omega arith) e3 (flag_laid "lsp=" lsp r.lsp _ _ _ _ c.write_flag-2.ensures.0) in
    (simp append-nil (simp append_assoc at e4), omega arith)
