-- The bits stored and those still to be stored are all of them.
use Rattle.cond.proofs.Kit.{◌∙◌, ap, arith, drop, length-drop, length-set, length-take-le, sub-zero, ℕ}
use Rattle.spelling.specs.Bytes.{bits_of}
use Rattle.spelling.proofs.Bits.{bits_length}
use Rattle.spelling.proofs.Stored.{room, stored_part}
use Rattle.spelling.proofs.Stores.{bits_end, bits_step}
use Rattle.spelling.proofs.elements.put_bits.Goals as goal

pub loop-place-init : goal.loop-place-init
loop-place-init c =
    let a = c.args in
    let r = room c.has_room.ensures c.if-not-has_room.false in
    (length-take-le _ (drop a.at a.out.now) (omega (arith, length-drop a.at a.out.now)) ∙ omega arith, ap (λ (m : ℕ). bits_of m a.n) (sub-zero a.w))

pub loop-place-preserved : goal.loop-place-preserved
loop-place-preserved c = let a = c.loop-place in (simp length-set a.invariant.0, bits_step _ _ _ a.place-index _ (omega arith) a.invariant.0 a.invariant.1)

pub returns : goal.returns
returns c = let a = c.loop-place in
    stored_part _ _ _ _ (bits_length _ _) c.has_room.ensures _ c.if-not-has_room.false (bits_end _ _ _ a.place-index _ (omega arith) a.invariant.0 a.invariant.1)
