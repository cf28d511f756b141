-- The two are the same where the bytes passed are and those not passed yet are.
use Rattle.cond.proofs.Kit.{arith, sym}
use Rattle.spelling.proofs.Steps.{lengths_differ, same_end, same_step}
use Rattle.spelling.proofs.compare.same_bytes.Goals as goal

pub returns-then-s-t : goal.returns-then-s-t
returns-then-s-t c = sym (lengths_differ _ _ c.if-s-t.true)

pub loop-i-preserved : goal.loop-i-preserved
loop-i-preserved c = let a = c.loop-i in
    same_step _ _ a.i a.same a.invariant (omega arith) (omega arith)

pub returns : goal.returns
returns c = let a = c.loop-i in
    same_end _ _ a.i a.same a.invariant (omega arith) (omega arith)
