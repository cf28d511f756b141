-- What the walk has seen of the rows passed.
use Rattle.racks.proofs.RackRows.{Walked}
use Rattle.racks.proofs.rack_rows.racks_of.Given as goal

abbrev pub invariant-loop-i : goal.invariant-loop-i
invariant-loop-i l = Walked l.table l.used l.i l.zero l.one
