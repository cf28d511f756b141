-- Inner: the signs that a record tells.
use Rattle.std.specs.Prelude.{Bool, Option, ℤ}
use Rattle.record.specs.declared.Position.{Position}
use Rattle.record.specs.Sign.{is_negative}
use Rattle.forms.specs.Fields.Offset.{minutes_of}
use Rattle.forms.specs.Fields.Position.{latitude_of, longitude_of}

abbrev pub is_minus : Option ℤ → Bool
is_minus x = is_negative (minutes_of x)

abbrev pub is_south : Option Position → Bool
is_south x = is_negative (latitude_of x)

abbrev pub is_west : Option Position → Bool
is_west x = is_negative (longitude_of x)
