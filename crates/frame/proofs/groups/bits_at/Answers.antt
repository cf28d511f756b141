-- The part is as wide as asked, and its elements are tested.
use Rattle.spelling.specs.Spelling.{is_spelled}
use Rattle.frame.proofs.groups.bits_at.Goals as goal

pub returns : goal.returns
unfolding is_spelled
returns c = simp (c.are_bits.ensures, c.part_of-x.ensures)
