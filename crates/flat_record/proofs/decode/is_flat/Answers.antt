-- The tests are those of the definition.
use Rattle.flat_record.specs.Decode.{is_flat}
use Rattle.flat_record.proofs.decode.is_flat.Goals as goal

pub returns : goal.returns
unfolding is_flat
returns c = rw (c.offset_fits.ensures, c.position_fits.ensures)
