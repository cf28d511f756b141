-- Row 4, "BCD digit over 9": the digits of a frame, and what a reader answers where one is over 9.
use Rattle.std.specs.Prelude.{Bool, true, false, not, List, [], ◌∷◌, ◌≡◌, ℕ, suc, ◌-◌, leb, drop, length, take}
use Rattle.spelling.specs.Bytes.{all_are, bits_number}
use Rattle.record.specs.Answers.{number_in}
use Rattle.record.specs.declared.sign.SignRule.{SignRule}
use Rattle.forms.specs.All.{is_one_of}
use Rattle.forms.specs.Checksum.{checksums_hold}
use Rattle.forms.specs.Form.{values_by}
use Rattle.forms.specs.Forms.{frame_form, read_form}
use Rattle.forms.specs.Frame.{frame}
use Rattle.forms.specs.Places.{shape}

-- the number of the elements from one to another, "low bit first"
abbrev pub elements : ℕ → ℕ → List ℕ → ℕ
elements first last s = bits_number (take (suc last - first) (drop first s))

-- "seconds 1-4 and 6-8; minutes 10-13, 15-17; hours 20-23, 25-26; day of year 30-33, 35-38, 40-41; year 50-53, 55-58"
abbrev pub bcd_digits : List ℕ → List ℕ
bcd_digits s =
    elements 1 4 s ∷ elements 6 8 s
    ∷ elements 10 13 s ∷ elements 15 17 s
    ∷ elements 20 23 s ∷ elements 25 26 s
    ∷ elements 30 33 s ∷ elements 35 38 s ∷ elements 40 41 s
    ∷ elements 50 53 s ∷ elements 55 58 s
    ∷ []

-- "BCD digit over 9"
abbrev pub has_digit_over_9 : List ℕ → Bool
has_digit_over_9 s = not (all_are (λ d. leb d 9) (bcd_digits s))

-- of both frames
pub record BcdDigits (x : SignRule) : Type 0 where
  -- "Readers test in the order 1, 2, 3, 6, 4, 5": a frame that none of the tests before refuses is answered 4
  pub four :
      (s : List ℕ) → has_digit_over_9 s ≡ true → is_one_of (2 ∷ 3 ∷ 6 ∷ []) (number_in (read_form (frame_form x) s)) ≡ false → number_in (read_form (frame_form x) s) ≡ 4
  -- so is each of the right length, shape and parity
  pub shaped_four :
      (s : List ℕ) → has_digit_over_9 s ≡ true → length s ≡ 100 → shape (frame x).layout 0 s ≡ true
      → checksums_hold (frame x).checksums s (values_by (frame x) s) ≡ true → number_in (read_form (frame_form x) s) ≡ 4
