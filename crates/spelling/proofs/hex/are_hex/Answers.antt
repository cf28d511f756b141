-- All bytes meet the test where those passed did and those not passed yet do.
use Rattle.cond.proofs.Kit.{arith}
use Rattle.spelling.specs.Bytes.{is_hex}
use Rattle.spelling.proofs.Steps.{all_end, all_step}
use Rattle.spelling.proofs.hex.are_hex.Goals as goal

pub loop-b-preserved : goal.loop-b-preserved
loop-b-preserved c = let a = c.loop-b in
    rw c.is_hex-fits.ensures (all_step is_hex c.args.s.now a.b-index a.held a.invariant (omega arith))

pub returns : goal.returns
returns c = let a = c.loop-b in
    all_end is_hex _ a.b-index a.held a.invariant (omega arith)
