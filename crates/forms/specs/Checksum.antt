-- Checksums: "cc is the exclusive-or of all 29 bytes before it", "the ones at 1..75 are even in number", W-204 "the NMEA exclusive-or of the
-- bytes between `$` and `*`".
use Rattle.std.specs.Prelude.{Bool, List, [], ◌∷◌, ℕ, ◌%◌, eqb, take, drop}
use Rattle.cond.specs.Pick.{pick}
use Rattle.spelling.specs.Bytes.{ones, xor_from}
use Rattle.forms.specs.All.{all}
use Rattle.forms.specs.Slots.{Slot, Values, same, checksum}

-- the exclusive-or of bytes, or the element that makes the ones among elements, and itself, even in number
pub data Rule : Type 0 where
  exclusive_or : Rule
  even_ones : Rule

-- a checksum: the slot that tells it, and the bytes that it is taken over, so many from a place on
pub record Checksum : Type 0 where
  pub slot : Slot
  pub rule : Rule
  pub from : ℕ
  pub count : ℕ

-- the checksum that the slot `sum` tells
abbrev pub checksum_by : Rule → ℕ → ℕ → Checksum
checksum_by rule from count = record { slot = checksum; rule = rule; from = from; count = count }

abbrev pub total_by : Rule → List ℕ → ℕ
total_by exclusive_or s = xor_from 0 s
total_by even_ones s = ones s % 2

-- the checksum of a string
abbrev pub checksum_of : Checksum → List ℕ → ℕ
checksum_of c s = total_by c.rule (take c.count (drop c.from s))

-- each is what the string tells
abbrev pub checksum_tests : List Checksum → List ℕ → Values → List Bool
checksum_tests [] s v = []
checksum_tests (c ∷ cs) s v = eqb (v c.slot) (checksum_of c s) ∷ checksum_tests cs s v

-- "SPA sum or frame parity is wrong" where this is false, W-204 "6 for the sum"; v is what the string tells
unfoldable pub checksums_hold : List Checksum → List ℕ → Values → Bool
checksums_hold cs s v = all (checksum_tests cs s v)

-- the values with this number in the slot `sum`
abbrev pub with_checksum : Values → ℕ → Values
with_checksum v x f = pick (same f checksum) x (v f)

-- the values with these checksums of a string
abbrev pub with_checksums : List Checksum → List ℕ → Values → Values
with_checksums [] s v f = v f
with_checksums (c ∷ cs) s v f = pick (same f c.slot) (checksum_of c s) (with_checksums cs s v f)
