-- The digits still to be stored make of the bytes as they are what all of them make of the bytes at entry: the last one goes first.
use Rattle.cond.proofs.Kit.{◌+◌, ◌≡◌, ◌≤◌, length, sets}
use Rattle.spelling.specs.Bytes.{hex_of, spelled_in}
use Rattle.spelling.proofs.digits.put_spelled.Given as goal

abbrev pub invariant-loop-i : goal.invariant-loop-i
invariant-loop-i g l =
    (l.at + l.w ≤ length l.out)
    × (length l.out ≡ length l.initial.out)
    × (sets l.initial.out l.at (spelled_in g.row.BASE hex_of l.w l.n) ≡ sets l.out l.at (spelled_in g.row.BASE hex_of l.i l.rest))
