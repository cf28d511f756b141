-- Each line stands behind those before it, and together they are this part of the block.
use Rattle.cond.proofs.Kit.{append_assoc, append-nil, arith}
use Rattle.forms.specs.Block.{chosen_layout}
use Rattle.forms.specs.Slots.{change, fix, leap, summer, utc}
use Rattle.block_lines.specs.Flags.{flag_in}
use Rattle.block.proofs.Layouts.{flag_laid}
use Rattle.block.proofs.Lent.{laid_next}
use Rattle.block.proofs.writer.write_middle.Goals as goal

pub returns : goal.returns
unfolding chosen_layout flag_in
returns c = let r = c.args.r in
    let e1 = flag_laid "fix=" fix r.fix _ _ _ _ c.write_flag-utc.ensures.0 in
    let e2 = laid_next _ _ _ _ _ _ _ _ (omega arith) e1 (flag_laid "utc=" utc r.utc _ _ _ _ c.write_flag.ensures.0) in
    let e3 = laid_next _ _ _ _ _ _ _ _ (omega arith) e2 (flag_laid "summer=" summer r.summer _ _ _ _ c.write_flag-2.ensures.0) in
    let e4 = laid_next _ _ _ _ _ _ _ _ (omega arith) e3 (flag_laid "change=" change r.change _ _ _ _ c.write_flag-3.ensures.0) in
    let e5 = laid_next _ _ _ _ _ _ _ _ (omega arith) e4 (flag_laid "leap=" leap r.leap _ _ _ _ c.write_flag-4.ensures.0) in
    (simp append-nil (simp append_assoc at e5), omega arith)
