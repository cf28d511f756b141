-- The bytes moved so far stand at the head, and all behind them are as they were: a byte is moved before its place is stored to.
use Rattle.cond.proofs.Kit.{◌∙◌, arith, length-set}
use Rattle.report.proofs.Moved.{moves}
use Rattle.report.proofs.carry.move_to_head.Goals as goal

pub loop-i-preserved : goal.loop-i-preserved
loop-i-preserved c = let q = c.loop-i in
    let moved = moves c.args.buffer.now c.args.from c.args.k c.requires q.i (omega arith) q.buffer q.invariant.2 in
    (omega arith, length-set q.buffer q.i _ ∙ q.invariant.1, moved)
