-- A record that is stored as numbers and given back is the same record.
use Rattle.std.specs.Prelude.{Bool, true, ◌&&◌, ◌≡◌, leb, nat_abs, Ok}
use Rattle.record.specs.declared.Record.{Record}
use Rattle.record.specs.Record.{is_good}
use Rattle.forms.specs.Fields.Offset.{encode_minutes}
use Rattle.forms.specs.Fields.Position.{latitude_of, longitude_of}
use Rattle.flat_record.specs.Decode.{record_of}
use Rattle.flat_record.specs.Encode.{numbers_of}

-- the magnitudes of a record fit an i32, as all do but that of -2,147,483,648
unfoldable pub magnitudes_fit : Record → Bool
magnitudes_fit r = leb (encode_minutes r.offset) 2147483647 && (leb (nat_abs (latitude_of r.position)) 2147483647 && leb (nat_abs (longitude_of r.position)) 2147483647)

pub record Back : Type 0 where
  pub back : (r : Record) → magnitudes_fit r ≡ true → record_of (numbers_of r) ≡ Ok r
  -- all that readers hand out and writers take
  pub good : (r : Record) → is_good r ≡ true → record_of (numbers_of r) ≡ Ok r
