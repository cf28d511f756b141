-- How numbers and words are spelled in bytes.
use Rattle.std.specs.Prelude.{Bool, true, false, ◌&&◌, ◌||◌, List, [], ◌∷◌, ◌++◌, map, fold, bytes_eq, ℕ, zero, suc, ◌+◌, ◌-◌, ◌*◌, ◌/◌, ◌%◌, ◌^◌, min, leb, ltb, eqb, length, take, drop}
use Prim.Native.Char.{code}
use Prim.Native.String.{String}
use Rattle.std.specs.List.{list_all, list_any}
use Rattle.std.specs.Int.Bits.{bit_xor}
use Rattle.cond.specs.Pick.{one_if, pick}

-- the bytes of a quoted text
abbrev pub text : String → List ℕ
text String.[] = []
text (String.◌∷◌ c s) = code c ∷ text s

-- two byte strings are the same
unfoldable pub same_bytes : List ℕ → List ℕ → Bool
same_bytes = bytes_eq

-- a test holds of every byte
unfoldable pub all_are : (ℕ → Bool) → List ℕ → Bool
all_are = list_all

-- the number that digits spell in a base, the first one the highest
unfoldable pub number_in : ℕ → (ℕ → ℕ) → List ℕ → ℕ
number_in base value [] = 0
number_in base value (b ∷ bs) = value b * base ^ length bs + number_in base value bs

-- the last w digits of n in a base
unfoldable pub spelled_in : ℕ → (ℕ → ℕ) → ℕ → ℕ → List ℕ
spelled_in base digit zero n = []
spelled_in base digit (suc w) n = digit (n / base ^ w % base) ∷ spelled_in base digit w (n % base ^ w)

-- the byte lies between two bytes
abbrev pub is_within : ℕ → ℕ → ℕ → Bool
is_within low high b = leb low b && leb b high

-- decimal digits; the value of a byte is its low four bits, so that a space has the value 0

abbrev pub is_digit : ℕ → Bool
is_digit = is_within 48 57

abbrev pub digit_value : ℕ → ℕ
digit_value b = b % 16

abbrev pub digit_of : ℕ → ℕ
digit_of d = d + 48

-- decimal digits alone
abbrev pub are_digits : List ℕ → Bool
are_digits = all_are is_digit

-- the number that decimal digits spell
abbrev pub number : List ℕ → ℕ
number = number_in 10 digit_value

-- the last w decimal digits of n
abbrev pub decimal : ℕ → ℕ → List ℕ
decimal = spelled_in 10 digit_of

-- hexadecimal digits, "0-9, A-F"

abbrev pub is_hex : ℕ → Bool
is_hex b = is_digit b || is_within 65 70 b

abbrev pub hex_value : ℕ → ℕ
hex_value b = pick (leb b 57) (digit_value b) (b - 55)

abbrev pub hex_of : ℕ → ℕ
hex_of d = pick (ltb d 10) (d + 48) (d + 55)

-- hexadecimal digits alone
abbrev pub are_hex : List ℕ → Bool
are_hex = all_are is_hex

-- the number that hexadecimal digits spell
abbrev pub hex_number : List ℕ → ℕ
hex_number = number_in 16 hex_value

-- the last w hexadecimal digits of n
abbrev pub hexadecimal : ℕ → ℕ → List ℕ
hexadecimal = spelled_in 16 hex_of

-- padding: "Leading zeros .. are spaces, the last digit .. always stays"

-- digits with their leading zeros as spaces
unfoldable pub blanked : List ℕ → List ℕ
blanked [] = []
blanked (b ∷ []) = b ∷ []
blanked (b ∷ c ∷ bs) = pick (eqb b 48) (32 ∷ blanked (c ∷ bs)) (b ∷ c ∷ bs)

-- spaces, then digits of which the first is no zero unless it is the last
unfoldable pub are_padded : List ℕ → Bool
are_padded [] = false
are_padded (b ∷ []) = is_digit b
are_padded (b ∷ c ∷ bs) = pick (eqb b 32) (are_padded (c ∷ bs)) ((leb 49 b && leb b 57) && are_digits (c ∷ bs))

-- elements 0 and 1, "low bit first"

abbrev pub is_bit : ℕ → Bool
is_bit = is_within 0 1

-- the number that bits spell
unfoldable pub bits_number : List ℕ → ℕ
bits_number [] = 0
bits_number (b ∷ bs) = b + bits_number bs * 2

-- the lowest n bits of a number
unfoldable pub bits_of : ℕ → ℕ → List ℕ
bits_of zero v = []
bits_of (suc n) v = (v % 2) ∷ bits_of n (v / 2)

-- digits of a base in groups of bits, the lowest digit first, as BCD is sent

-- a digit in so many bits, or a fixed element between two digits
pub data Group : Type 0 where
  digit : ℕ → Group
  gap : ℕ → Group

-- the elements of a group
abbrev pub group_width : Group → ℕ
group_width (digit w) = w
group_width (gap e) = 1

unfoldable pub groups_width : List Group → ℕ
groups_width [] = 0
groups_width (g ∷ gs) = group_width g + groups_width gs

-- the elements of one group: bits, or the fixed element
abbrev pub is_group : Group → List ℕ → Bool
is_group (digit w) x = all_are is_bit x
is_group (gap e) x = same_bytes x (e ∷ [])

unfoldable pub are_groups : List Group → List ℕ → Bool
are_groups [] x = same_bytes x []
are_groups (g ∷ gs) x = is_group g (take (group_width g) x) && are_groups gs (drop (group_width g) x)

-- the numbers that a group's digit may have in the base
abbrev pub digit_limit : ℕ → ℕ → ℕ
digit_limit base w = min base (2 ^ w)

-- how many numbers the groups spell
unfoldable pub groups_limit : ℕ → List Group → ℕ
groups_limit base [] = 1
groups_limit base (digit w ∷ gs) = digit_limit base w * groups_limit base gs
groups_limit base (gap e ∷ gs) = groups_limit base gs

-- the number of the groups, the lowest digit first
unfoldable pub groups_number : ℕ → List Group → List ℕ → ℕ
groups_number base [] x = 0
groups_number base (digit w ∷ gs) x = bits_number (take w x) + base * groups_number base gs (drop w x)
groups_number base (gap e ∷ gs) x = groups_number base gs (drop 1 x)

-- every digit is below the base
unfoldable pub digits_below : ℕ → List Group → List ℕ → Bool
digits_below base [] x = true
digits_below base (digit w ∷ gs) x = ltb (bits_number (take w x)) base && digits_below base gs (drop w x)
digits_below base (gap e ∷ gs) x = digits_below base gs (drop 1 x)

-- the groups that spell a number
unfoldable pub groups_of : ℕ → List Group → ℕ → List ℕ
groups_of base [] n = []
groups_of base (digit w ∷ gs) n = bits_of w (n % base) ++ groups_of base gs (n / base)
groups_of base (gap e ∷ gs) n = e ∷ groups_of base gs n

-- words of a list

-- a word of the list
unfoldable pub is_word : List (List ℕ) → List ℕ → Bool
is_word ws x = list_any (same_bytes x) ws

-- the place of a word in its list
unfoldable pub word_place : List (List ℕ) → List ℕ → ℕ
word_place [] x = 0
word_place (y ∷ ys) x = pick (same_bytes x y) 0 (suc (word_place ys x))

-- each letter a word
unfoldable pub letters : List ℕ → List (List ℕ)
letters = map (λ b. b ∷ [])

-- sums

-- the exclusive-or of a number and all bytes
unfoldable pub xor_from : ℕ → List ℕ → ℕ
xor_from = fold bit_xor

-- how many of the elements are ones
unfoldable pub ones : List ℕ → ℕ
ones [] = 0
ones (b ∷ bs) = one_if (eqb b 1) + ones bs
