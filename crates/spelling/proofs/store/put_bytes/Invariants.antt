-- What is still to be stored makes of the bytes as they are what all of src makes of the bytes at entry.
use Rattle.cond.proofs.Kit.{◌+◌, ◌≡◌, ◌≤◌, drop, length, sets}
use Rattle.spelling.proofs.store.put_bytes.Given as goal

abbrev pub invariant-loop-i : goal.invariant-loop-i
invariant-loop-i l = (l.at + length l.src ≤ length l.out) × (length l.out ≡ length l.initial.out) × (sets l.initial.out l.at l.src ≡ sets l.out (l.at + l.i) (drop l.i l.src))
