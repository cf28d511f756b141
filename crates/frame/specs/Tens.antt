-- Inner: the frame as "ten groups of ten elements": its rows.
use Rattle.std.specs.Prelude.{List, [], ◌∷◌, ◌++◌, ℕ, ◌+◌, ◌/◌, ◌%◌, set}
use Rattle.spelling.specs.Stored.{stored}
use Rattle.spelling.specs.Bytes.{bits_of}
use Rattle.forms.specs.Slots.{Values, checksum, day_seconds, dsp, half_hour, hour, lsp, minute, offset_hours, ordinal, quality, second, summer, year}

-- a row that tells nothing: "Marks stand at .. 9, 19, .. 99", "the rest is 0"
abbrev pub blank : List ℕ
blank = 0 ∷ 0 ∷ 0 ∷ 0 ∷ 0 ∷ 0 ∷ 0 ∷ 0 ∷ 0 ∷ 2 ∷ []

-- the row with a number in so many elements from k on, "low bit first"
abbrev pub with_bits : List ℕ → ℕ → ℕ → ℕ → List ℕ
with_bits row k w n = stored row k (bits_of w n)

-- "BCD, low bit first": the row with two decimal digits, the low one in four elements from k on, the high one in so many behind the next
abbrev pub with_pair : List ℕ → ℕ → ℕ → ℕ → List ℕ
with_pair row k high n = with_bits (with_bits row k 4 (n % 10)) (k + 5) high (n / 10 % 10)

-- "60 lsp; 61 leap deletion; 62 dsp; 63 summer; 64 offset sign; 65-68 whole hours of offset", the sign given; no second is deleted
abbrev pub zone_row : ℕ → Values → List ℕ
zone_row sign v =
    with_bits (with_bits (with_bits (with_bits (with_bits blank 0 1 (v lsp)) 2 1 (v dsp)) 3 1 (v summer)) 4 1 sign) 5 4 (v offset_hours)

-- "70 its half hour; 71-74 TFOM; 75 parity"
abbrev pub quality_row : Values → List ℕ
quality_row v = with_bits (with_bits (with_bits blank 0 1 (v half_hour)) 1 4 (v quality)) 5 1 (v checksum)

-- the ten rows of a frame that tells v and this sign: "Marks stand at 0", too; the day of the year goes on from 38 to 40, the seconds of the day from 88 to 90
unfoldable pub ten_rows : ℕ → Values → List (List ℕ)
ten_rows sign v =
    with_pair (set blank 0 2) 1 3 (v second)
    ∷ with_pair blank 0 3 (v minute)
    ∷ with_pair blank 0 2 (v hour)
    ∷ with_pair blank 0 4 (v ordinal)
    ∷ with_bits blank 0 2 (v ordinal / 10 / 10 % 10)
    ∷ with_pair blank 0 4 (v year)
    ∷ zone_row sign v
    ∷ quality_row v
    ∷ with_bits blank 0 9 (v day_seconds % 512)
    ∷ with_bits blank 0 8 (v day_seconds / 512 % 512)
    ∷ []

-- rows one behind the other
unfoldable pub joined : List (List ℕ) → List ℕ
joined [] = []
joined (x ∷ xs) = x ++ joined xs
