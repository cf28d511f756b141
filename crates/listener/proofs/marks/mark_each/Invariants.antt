-- Each turn stores the mark of one byte and leaves the state that the byte left; at the end every byte has its mark.
use Rattle.cond.proofs.Kit.{◌-◌, ◌≡◌, ◌≤◌, drop, length, List, sets, ℕ}
use Rattle.serial.specs.Shape.{longest}
use Rattle.listener.specs.Marks.{marks_from}
use Rattle.listener.specs.declared.Listener.{Listener}
use Rattle.listener.proofs.marks.mark_each.Given as goal

abbrev pub state : ℕ → List ℕ → ℕ → ℕ → ℕ → Listener
state form bytes at kept distance = record { bytes = bytes; at = at; kept = kept; distance = distance; form = form }

abbrev pub invariant-loop-i : goal.invariant-loop-i
invariant-loop-i l =
    (l.i ≤ length l.s) × (length l.marks ≡ length l.initial.marks) × (length l.bytes ≡ longest)
    × (sets l.initial.marks 0 (marks_from (state l.form l.initial.bytes l.initial.at l.initial.kept l.initial.distance) l.s) ≡ sets l.marks l.i (marks_from (state l.form l.bytes l.at l.kept l.distance) (drop l.i l.s)))

abbrev pub decreases-loop-i : goal.decreases-loop-i
decreases-loop-i l = length l.s - l.i
