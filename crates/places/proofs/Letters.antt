-- A place of one byte: the byte, one of a list of letters, and what the letters tell; and a place of words of several letters.
use Rattle.cond.proofs.Kit.{[], ◌+◌, ◌<◌, ◌∙◌, ◌∷◌, ◌≡◌, ◌≤◌, and-true, ap, arith, drop, drop-cons, drop_of_length-le, eqb, false, get_or, length, List, not, refl, suc, take, true, zero, ℕ}
use Rattle.cond.proofs.Tests.{either_way}
use Rattle.spelling.specs.Bytes.{is_word, letters, same_bytes, word_place}
use Rattle.spelling.specs.Spelling.{is_spelled, value_of, words}
use Rattle.spelling.proofs.Spelling.{sized_is, sized_value}
use Rattle.spelling.proofs.Words.{all_different, place_same}
use Rattle.forms.proofs.Layouts.{piece_length}
use Rattle.forms.specs.Fields.Flag.{yes_no}
use Rattle.forms.specs.Fields.Sign.{negative}
use Rattle.places.specs.Places.{flag_of}

-- a letter by its number
pub letters_at : (ls : List ℕ) (n : ℕ) → n < length ls → get_or (letters ls) n [] ≡ get_or ls n 0 ∷ []
unfolding letters
letters_at [] n h = absurd (omega arith)
letters_at (a ∷ bs) zero h = refl
letters_at (a ∷ bs) (suc n) h = letters_at bs n (omega arith)

pub letters_none : (ls : List ℕ) (n : ℕ) → length ls ≤ n → get_or (letters ls) n [] ≡ []
unfolding letters
letters_none [] n h = refl
letters_none (a ∷ bs) zero h = absurd (omega arith)
letters_none (a ∷ bs) (suc n) h = letters_none bs n (omega arith)

-- a place behind the end has no byte
module _ (s : List ℕ) (at : ℕ) (h : length s ≤ at) where
  pub no_byte : (b : ℕ) → same_bytes (take 1 (drop at s)) (b ∷ []) ≡ false
  unfolding same_bytes
  no_byte b = rw (drop_of_length-le s h)

  pub no_letter : (ls : List ℕ) → is_spelled (words 1 (letters ls)) (take 1 (drop at s)) ≡ false
  unfolding is_spelled
  no_letter ls = rw (drop_of_length-le s h)

module _ (s : List ℕ) (at : ℕ) (h : at < length s) where
  byte_at : take 1 (drop at s) ≡ get_or s at 0 ∷ []
  byte_at = ap (take 1) (drop-cons s at 0 h)

  pub same_byte : (b : ℕ) → same_bytes (take 1 (drop at s)) (b ∷ []) ≡ eqb (get_or s at 0) b
  unfolding same_bytes
  same_byte b = ap (λ x. same_bytes x (b ∷ [])) byte_at ∙ and-true (eqb (get_or s at 0) b)

  letter_long : length (take 1 (drop at s)) ≡ 1
  letter_long = ap length byte_at

  -- the byte is one of the letters
  pub letter_is : (ls : List ℕ) → is_spelled (words 1 (letters ls)) (take 1 (drop at s)) ≡ is_word (letters ls) (get_or s at 0 ∷ [])
  letter_is ls = sized_is _ (words 1 (letters ls)) letter_long ∙ ap (is_word (letters ls)) byte_at

  -- what it tells is its place among them
  pub letter_value : (ls : List ℕ) → value_of (words 1 (letters ls)) (take 1 (drop at s)) ≡ word_place (letters ls) (take 1 (drop at s))
  letter_value ls = sized_value _ (words 1 (letters ls)) letter_long

  -- the first letter means no
  pub flag_letter : (a b : ℕ) → yes_no (value_of (words 1 (letters (a ∷ b ∷ []))) (take 1 (drop at s))) ≡ flag_of (eqb (get_or s at 0) a)
  unfolding letters word_place
  flag_letter a b = rw (letter_value (a ∷ b ∷ []), same_byte a) (either_way (eqb (get_or s at 0) a) (λ e. simp e) (λ e. simp e))

  -- the first letter is the sign of numbers from zero on
  pub sign_letter : (a b : ℕ) → negative (value_of (words 1 (letters (a ∷ b ∷ []))) (take 1 (drop at s))) ≡ not (eqb (get_or s at 0) a)
  unfolding letters word_place
  sign_letter a b = rw (letter_value (a ∷ b ∷ []), same_byte a) (either_way (eqb (get_or s at 0) a) (λ e. simp e) (λ e. simp e))

-- it is the word of this number in the list
pub word_of : (s : List ℕ) (at w : ℕ) (ws : List (List ℕ)) (i : ℕ) → at + w ≤ length s → all_different ws ≡ true → i < length ws
    → eqb (value_of (words w ws) (take w (drop at s))) i ≡ same_bytes (take w (drop at s)) (get_or ws i [])
word_of s at w ws i h d l =
    ap (λ (k : ℕ). eqb k i) (sized_value _ (words w ws) (piece_length at s w h)) ∙ place_same ws (take w (drop at s)) i d l
