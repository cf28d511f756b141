-- The two are the same where the bytes passed are and those not passed yet are.
use Rattle.cond.proofs.Kit.{◌&&◌, ◌≡◌, drop}
use Rattle.spelling.specs.Bytes.{same_bytes}
use Rattle.spelling.proofs.compare.same_bytes.Given as goal

abbrev pub invariant-loop-i : goal.invariant-loop-i
invariant-loop-i l = same_bytes l.s l.t ≡ (l.same && same_bytes (drop l.i l.s) (drop l.i l.t))
