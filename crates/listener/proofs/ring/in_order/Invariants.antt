-- Each turn lays one byte more of the ring into the layout.
use Rattle.cond.proofs.Kit.{◌-◌, ◌≡◌, ◌≤◌, length, take}
use Rattle.serial.specs.Shape.{longest}
use Rattle.listener.specs.Ring.{oldest_first}
use Rattle.listener.proofs.ring.in_order.Given as goal

abbrev pub invariant-loop-i : goal.invariant-loop-i
invariant-loop-i l = (l.i ≤ l.n) × ((length l.z ≡ longest) × (take l.i l.z ≡ take l.i (oldest_first l.from l.y)))

abbrev pub decreases-loop-i : goal.decreases-loop-i
decreases-loop-i l = l.n - l.i
