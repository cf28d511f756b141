-- The bits stored and those still to be stored are all of them.
use Rattle.cond.proofs.Kit.{◌++◌, ◌-◌, ◌≡◌, length, take}
use Rattle.spelling.specs.Bytes.{bits_of}
use Rattle.spelling.proofs.elements.put_bits.Given as goal

abbrev pub invariant-loop-place : goal.invariant-loop-place
invariant-loop-place l = (length l.place-items ≡ l.w) × (take l.place-index l.place-items ++ bits_of (l.w - l.place-index) l.rest ≡ bits_of l.w l.n)
