-- Inner: the end of an SPA string, stored behind the bytes in front of it.
use Rattle.std.specs.Prelude.{List, [], ◌∷◌, ℕ}
use Rattle.spelling.specs.Bytes.{hexadecimal}
use Rattle.spelling.specs.Stored.{stored}
use Rattle.forms.specs.Checksum.{checksum_of}
use Rattle.forms.specs.Serial.{spa_checksum}

-- `cc<CR>`: the sum of "all 29 bytes before it", and the last byte
abbrev pub end_stored : List ℕ → List ℕ
end_stored o = stored (stored o 29 (hexadecimal 2 (checksum_of spa_checksum o))) 31 (13 ∷ [])
