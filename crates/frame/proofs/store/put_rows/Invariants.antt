-- The loop's invariant: the rows passed are stored from the head on, ten elements each.
use Rattle.cond.proofs.Kit.{◌*◌, ◌-◌, ◌≡◌, ◌≤◌, length, sets, take}
use Rattle.frame.specs.Tens.{joined}
use Rattle.frame.proofs.store.put_rows.Given as goal

abbrev pub invariant-loop-i : goal.invariant-loop-i
invariant-loop-i l = (l.i ≤ 10) × (length l.out ≡ length l.initial.out) × (length (joined (take l.i l.rows)) ≡ l.i * 10) × (l.out ≡ sets l.initial.out 0 (joined (take l.i l.rows)))

abbrev pub decreases-loop-i : goal.decreases-loop-i
decreases-loop-i l = 10 - l.i
