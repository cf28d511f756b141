-- Found so far or among the letters still to be compared.
use Rattle.cond.proofs.Kit.{arith}
use Rattle.spelling.proofs.Steps.{among_end, among_step}
use Rattle.spelling.proofs.compare.is_among.Goals as goal

pub loop-choice-preserved : goal.loop-choice-preserved
loop-choice-preserved c = let a = c.loop-choice in
    among_step _ _ a.choice-index a.found a.invariant (omega arith)

pub returns : goal.returns
returns c = let a = c.loop-choice in
    among_end _ _ a.choice-index a.found a.invariant (omega arith)
