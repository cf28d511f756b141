-- All bytes meet the test where those passed did and those not passed yet do.
use Rattle.cond.proofs.Kit.{arith}
use Rattle.spelling.specs.Bytes.{is_bit}
use Rattle.spelling.proofs.Steps.{all_end, bit_step}
use Rattle.spelling.proofs.elements.are_bits.Goals as goal

pub loop-b-preserved : goal.loop-b-preserved
loop-b-preserved c = let a = c.loop-b in
    bit_step _ a.b-index a.held a.invariant (omega arith)

pub returns : goal.returns
returns c = let a = c.loop-b in
    all_end is_bit _ a.b-index a.held a.invariant (omega arith)
