-- Each turn takes the last digit off; what is left tells the digits in front of it.
use Rattle.cond.proofs.Kit.{arith}
use Rattle.report.proofs.Counts.{counting, last_digit, one_digit_more, twentieth}
use Rattle.report.proofs.summary.places.Goals as goal

pub loop-k-init : goal.loop-k-init
loop-k-init c = counting _

pub returns-then-rest-lt10 : goal.returns-then-rest-lt10
returns-then-rest-lt10 c = let q = c.loop-k in
    (last_digit _ q.rest q.k q.invariant c.if-rest-lt10.true, q.invariant.most)

pub loop-k-preserved : goal.loop-k-preserved
loop-k-preserved c = let q = c.loop-k in
    one_digit_more _ q.rest q.k q.invariant (omega arith) c.if-rest-lt10.false

pub returns : goal.returns
returns c = let q = c.loop-k in
    (twentieth _ q.rest q.k q.invariant (omega arith), q.invariant.most)
