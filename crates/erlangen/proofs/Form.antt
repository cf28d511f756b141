-- What the letter of second 60 and the signs of a Uni Erlangen string come to.
use Rattle.spelling.specs.Spelling.{value_of, words}
use Rattle.cond.proofs.Kit.{[], ◌&&◌, ◌||◌, ◌∙◌, ◌∷◌, ◌≡◌, ap, arith, Bool, drop, eqb, get_or, length, List, ne_eqb, not, refl, take, true, ℕ}
use Rattle.cond.specs.Pick.{one_if}
use Rattle.spelling.specs.Bytes.{is_word, letters, same_bytes}
use Rattle.spelling.proofs.Words.{all_different}
use Rattle.forms.specs.Fields.Offset.{in_minutes, decode_minutes}
use Rattle.forms.specs.Fields.Position.{decode_latitude, decode_longitude, degrees}
use Rattle.forms.specs.Fields.Time.{leap_consistent}
use Rattle.forms.specs.Form.{signs_consistent, values_by}
use Rattle.forms.specs.Places.{values}
use Rattle.forms.specs.Serial.{erlangen}
use Rattle.forms.specs.Slots.{second}
use Rattle.places.proofs.Letters.{word_of}
use Rattle.places.proofs.Signed.{sign_consistent_lem}

module _ (s : List ℕ) (l : length s ≡ 66) where
  -- `L` in second 60, and a space in any other

  pub plain_letter : (values_by erlangen s second ≡ 60 → ⊥) → leap_consistent true (values_by erlangen s) ≡ same_bytes (take 1 (drop 38 s)) (32 ∷ [])
  unfolding leap_consistent values letters all_different is_word same_bytes
  plain_letter n =
      ap (λ (t : Bool). eqb (value_of (words 1 (letters (32 ∷ 76 ∷ []))) (take 1 (drop 38 s))) (one_if t)) (ne_eqb _ 60 n)
      ∙ word_of s 38 1 (letters (32 ∷ 76 ∷ [])) 0 (omega arith) refl (omega arith)

  pub leap_letter : values_by erlangen s second ≡ 60 → leap_consistent true (values_by erlangen s) ≡ same_bytes (take 1 (drop 38 s)) (76 ∷ [])
  unfolding leap_consistent values letters all_different is_word same_bytes
  leap_letter e =
      ap (λ (n : ℕ). eqb (value_of (words 1 (letters (32 ∷ 76 ∷ []))) (take 1 (drop 38 s))) (one_if (eqb n 60))) e
      ∙ word_of s 38 1 (letters (32 ∷ 76 ∷ [])) 1 (omega arith) refl (omega arith)

  -- a minus, S or W stands on no zero
  pub signs_of : signs_consistent in_minutes degrees (values_by erlangen s)
      ≡ ((eqb (get_or s 24 0) 43 || not (eqb (decode_minutes in_minutes (values_by erlangen s)) 0)) && ((eqb (get_or s 48 0) 78 || not (eqb (decode_latitude degrees (values_by erlangen s)) 0)) && (eqb (get_or s 58 0) 69 || not (eqb (decode_longitude degrees (values_by erlangen s)) 0))))
  unfolding signs_consistent values
  signs_of = simp (sign_consistent_lem s 24 (omega arith) 43 45, sign_consistent_lem s 48 (omega arith) 78 83, sign_consistent_lem s 58 (omega arith) 69 87)
