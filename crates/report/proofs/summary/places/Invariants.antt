-- Each turn takes the last digit off; what is left tells the digits in front of it.
use Rattle.cond.proofs.Kit.{◌-◌}
use Rattle.report.proofs.Counts.{Counting}
use Rattle.report.proofs.summary.places.Given as goal

abbrev pub invariant-loop-k : goal.invariant-loop-k
invariant-loop-k l = Counting l.n l.rest l.k

abbrev pub decreases-loop-k : goal.decreases-loop-k
decreases-loop-k l = 20 - l.k
