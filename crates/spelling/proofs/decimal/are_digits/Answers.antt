-- All bytes meet the test where those passed did and those not passed yet do.
use Rattle.cond.proofs.Kit.{arith}
use Rattle.spelling.specs.Bytes.{is_digit}
use Rattle.spelling.proofs.Steps.{all_end, all_step}
use Rattle.spelling.proofs.decimal.are_digits.Goals as goal

pub loop-b-preserved : goal.loop-b-preserved
loop-b-preserved c = let a = c.loop-b in
    rw c.is_digit-fits.ensures (all_step is_digit c.args.s.now a.b-index a.held a.invariant (omega arith))

pub returns : goal.returns
returns c = let a = c.loop-b in
    all_end is_digit _ a.b-index a.held a.invariant (omega arith)
