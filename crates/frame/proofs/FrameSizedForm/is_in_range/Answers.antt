-- The sign rule leaves the ranges alone.
use Rattle.frame.proofs.Form.{ranged_by}
use Rattle.frame.proofs.FrameSizedForm.is_in_range.Goals as goal

pub returns : goal.returns
returns c = simp (c.in_range.ensures, c.numbers_in_range.ensures) (ranged_by c.args.self.now.rule c.args.s.now c.args.told c.requires.decoded)
