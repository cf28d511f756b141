-- What is still to be stored makes of the numbers as they are what all of n makes of the numbers at entry.
use Rattle.cond.proofs.Kit.{◌+◌, ◌-◌, ◌≡◌, ◌≤◌, drop, length, sets}
use Rattle.flat_record.proofs.encode.put_numbers.Given as goal

abbrev pub invariant-loop-i : goal.invariant-loop-i
invariant-loop-i l = (l.i ≤ length l.n) × (length l.out ≡ length l.initial.out) × (sets l.initial.out l.at l.n ≡ sets l.out (l.at + l.i) (drop l.i l.n))

abbrev pub decreases-loop-i : goal.decreases-loop-i
decreases-loop-i l = length l.n - l.i
