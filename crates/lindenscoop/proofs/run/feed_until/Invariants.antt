-- The run over all bytes is the run over those that are left, behind those that were answered by nothing.
use Rattle.cond.proofs.Kit.{◌-◌, ◌≡◌, ◌≤◌, drop, length}
use Rattle.serial.specs.Shape.{longest}
use Rattle.lindenscoop.specs.Run.{joined, run_of}
use Rattle.lindenscoop.proofs.Runs.{behind}
use Rattle.lindenscoop.proofs.run.feed_until.Given as goal

abbrev pub invariant-loop-i : goal.invariant-loop-i
invariant-loop-i l =
    (l.i ≤ length l.s) × (length l.bytes ≡ longest)
    × (run_of (joined l.form l.initial.bytes l.initial.at l.initial.kept l.initial.distance) l.s ≡ behind l.i (run_of (joined l.form l.bytes l.at l.kept l.distance) (drop l.i l.s)))

abbrev pub decreases-loop-i : goal.decreases-loop-i
decreases-loop-i l = length l.s - l.i
