-- The bytes moved so far stand at the head, and all behind them are as they were: a byte is moved before its place is stored to.
use Rattle.cond.proofs.Kit.{◌-◌, ◌≡◌, ◌≤◌, drop, length, paste}
use Rattle.report.proofs.carry.move_to_head.Given as goal

abbrev pub invariant-loop-i : goal.invariant-loop-i
invariant-loop-i l = (l.i ≤ l.k) × (length l.buffer ≡ length l.initial.buffer) × (l.buffer ≡ paste l.initial.buffer 0 (drop l.from l.initial.buffer) l.i)

abbrev pub decreases-loop-i : goal.decreases-loop-i
decreases-loop-i l = l.k - l.i
