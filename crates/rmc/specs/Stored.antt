-- Inner: the end of an RMC string, stored behind the bytes in front of it.
use Rattle.std.specs.Prelude.{List, [], ◌∷◌, ℕ}
use Rattle.spelling.specs.Bytes.{hexadecimal}
use Rattle.spelling.specs.Stored.{stored}
use Rattle.forms.specs.Checksum.{checksum_of}
use Rattle.forms.specs.Serial.{rmc_checksum}

-- `hh<CR><LF>`: the sum of the bytes between `$` and `*`, and the last two bytes
abbrev pub end_stored : List ℕ → List ℕ
end_stored o = stored (stored o 61 (hexadecimal 2 (checksum_of rmc_checksum o))) 63 (13 ∷ 10 ∷ [])
