-- The element is compared with what the elements before it ask for.
use Rattle.spelling.specs.Bytes.{groups_width}
use Rattle.forms.specs.Checksum.{checksums_hold}
use Rattle.forms.specs.Places.{values}
use Rattle.frame.proofs.Form.{parity_by}
use Rattle.frame.proofs.FrameSizedForm.checksum_holds.Goals as goal

pub returns : goal.returns
unfolding checksums_hold values groups_width
returns c = simp (c.number_at.ensures.0, c.parity_of.ensures) (parity_by c.args.self.now.rule c.args.s.now)
