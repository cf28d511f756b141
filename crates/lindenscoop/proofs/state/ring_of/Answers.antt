-- The head of the bytes is as long as the ring.
use Rattle.cond.proofs.Kit.{arith, length-take-le, sym}
use Rattle.lindenscoop.proofs.state.ring_of.Goals as goal

pub slice_bounds-copy_from_slice-end-2 : goal.slice_bounds-copy_from_slice-end-2
slice_bounds-copy_from_slice-end-2 c = sym (length-take-le 66 c.args.s.now (omega (arith, c.requires)))

pub copy_from_slice-requires : goal.copy_from_slice-requires
copy_from_slice-requires c = sym (length-take-le 66 c.args.s.now (omega (arith, c.requires)))
