-- The two digits of the sum are compared with the sum of the bytes.
use Rattle.forms.specs.Checksum.{checksums_hold}
use Rattle.forms.specs.Places.{values}
use Rattle.rmc.proofs.RmcSizedForm.checksum_holds.Goals as goal

pub returns : goal.returns
unfolding checksums_hold values
returns c = simp (c.hex_number_at.ensures, c.checksum_of.ensures)
