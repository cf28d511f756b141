-- Each turn writes the first record still to come, and what is written so far is what all records begin with.
use Rattle.cond.proofs.Kit.{◌-◌, length}
use Rattle.report.proofs.Scanned.{Progress}
use Rattle.report.proofs.records.write_records.Given as goal

abbrev pub invariant-loop-found : goal.invariant-loop-found
invariant-loop-found l = Progress l.form l.piece l.initial.out l.out l.telegrams l.bytes l.start

abbrev pub decreases-loop-found : goal.decreases-loop-found
decreases-loop-found l = length l.piece - l.start
