-- The last line: "`end bytes=` with the number of stream bytes and ` telegrams=` with the number of records".
use Rattle.record.specs.declared.refusal.Refusal.{Refusal}
use Rattle.std.specs.Prelude.{List, [], ◌∷◌, ◌++◌, ◌≡◌, ℕ, zero, suc, ◌+◌, ◌/◌, leb, ltb, length, Result, Ok, Err}
use Rattle.cond.specs.Pick.{pick}
use Rattle.spelling.specs.Bytes.{decimal, text}
use Rattle.record.specs.declared.refusal.Refusal.TheVariants as refusal
use Rattle.forms.specs.Form.{left_of}

-- the digits of n, t at the most
unfoldable pub places_up_to : ℕ → ℕ → ℕ
places_up_to zero n = 0
places_up_to (suc t) n = pick (ltb n 10) 1 (places_up_to t (n / 10) + 1)

-- 20 hold every count of 64 bits
unfoldable pub places_of : ℕ → ℕ
places_of n = places_up_to 20 n

-- a number in decimal digits, with no zero in front
abbrev pub counted : ℕ → List ℕ
counted n = decimal (places_of n) n

unfoldable pub end_line : ℕ → ℕ → List ℕ
end_line bytes telegrams = text "end bytes=" ++ (counted bytes ++ (text " telegrams=" ++ (counted telegrams ++ (10 ∷ []))))

-- refusal 10 where the buffer is shorter than the line
unfoldable pub end_answer : ℕ → ℕ → ℕ → Result ℕ Refusal
end_answer bytes telegrams room =
    pick (leb (length (end_line bytes telegrams)) room) (Ok (length (end_line bytes telegrams))) (Err refusal.ShortBuffer)

-- what the contract of `write_end` says: its answer, and every byte of the buffer afterwards
pub record Ended (bytes telegrams : ℕ) (w : Result ℕ Refusal) (before after : List ℕ) : Type 0 where
  pub answer : w ≡ end_answer bytes telegrams (length before)
  pub left : after ≡ left_of w (end_line bytes telegrams) before
