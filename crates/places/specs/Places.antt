-- Inner: what stands at places of a layout.
use Rattle.std.specs.Prelude.{Bool, ◌&&◌, not, List, [], ◌∷◌, ℕ, ◌+◌, ◌*◌, leb, take, drop, Option, Some}
use Rattle.cond.specs.Pick.{pick}
use Rattle.spelling.specs.Bytes.{same_bytes}
use Rattle.spelling.specs.Spelling.{digits, hex, is_spelled, value_of}

-- three numbers of two digits with a separator between them, from k on
abbrev pub pairs_at : List ℕ → ℕ → ℕ → Bool
pairs_at s k b =
    is_spelled (digits 2) (take 2 (drop k s))
    && (same_bytes (take 1 (drop (k + 2) s)) (b ∷ [])
    && (is_spelled (digits 2) (take 2 (drop (k + 3) s))
    && (same_bytes (take 1 (drop (k + 5) s)) (b ∷ []) && is_spelled (digits 2) (take 2 (drop (k + 6) s)))))

-- the number of w digits at k, seven at the most
abbrev pub number_at : List ℕ → ℕ → ℕ → ℕ
number_at s k w = pick (leb w 7) (value_of (digits w) (take w (drop k s))) 0

abbrev pub hex_number_at : List ℕ → ℕ → ℕ → ℕ
hex_number_at s k w = pick (leb w 7) (value_of (hex w) (take w (drop k s))) 0

-- a field that is no where the test holds, else yes
abbrev pub flag_of : Bool → Option Bool
flag_of t = Some (not t)

-- a field that is yes where the test holds, else no
abbrev pub yes_if : Bool → Option Bool
yes_if t = Some t

-- the minutes of `hh:mm` at k
abbrev pub minutes_of : List ℕ → ℕ → ℕ
minutes_of s k = number_at s k 2 * 60 + number_at s (k + 3) 2

-- the ten-thousandths of a degree of `ddd.dddd` at k
abbrev pub degrees_of : List ℕ → ℕ → ℕ
degrees_of s k = number_at s k 3 * 10000 + number_at s (k + 4) 4

-- `mm.hh` stands at k
abbrev pub arc_at : List ℕ → ℕ → Bool
arc_at s k =
    is_spelled (digits 2) (take 2 (drop k s)) && (same_bytes (take 1 (drop (k + 2) s)) (46 ∷ []) && is_spelled (digits 2) (take 2 (drop (k + 3) s)))

-- the hundredths of a minute of `mm.hh` at k
abbrev pub arc_of : List ℕ → ℕ → ℕ
arc_of s k = number_at s k 2 * 100 + number_at s (k + 3) 2
