-- A sign by the first and the second of two letters: what its tests come to, and the number that it stands on.
use Rattle.std.specs.Prelude.{Some}
use Rattle.cond.proofs.Kit.{[], ◌&&◌, ◌<◌, ◌||◌, ◌∙◌, ◌∷◌, ◌≡◌, ◌≤◌, ap, Bool, drop, eqb, false, get_or, length, List, not, refl, sym, take, true, ℕ, ℤ}
use Rattle.record.specs.declared.Position.TheVariants as PositionIs
use Rattle.record.specs.Sign.{signed, signed_number}
use Rattle.record.proofs.Signs.{signed_small}
use Rattle.spelling.specs.Bytes.{letters}
use Rattle.spelling.specs.Spelling.{value_of, words}
use Rattle.forms.specs.Fields.Sign.{negative, sign_consistent}
use Rattle.places.proofs.Letters.{sign_letter}

no_minus_zero : (a e : Bool) → not (not a && e) ≡ (a || not e)
no_minus_zero true e = refl
no_minus_zero false e = refl

module _ (s : List ℕ) (at : ℕ) (h : at < length s) where
  -- the positive sign, or a number that is no zero
  pub sign_consistent_lem : (a b n : ℕ) → sign_consistent (value_of (words 1 (letters (a ∷ b ∷ []))) (take 1 (drop at s))) n ≡ (eqb (get_or s at 0) a || not (eqb n 0))
  unfolding sign_consistent
  sign_consistent_lem a b n =
      ap (λ (t : Bool). not (t && eqb n 0)) (sign_letter s at h a b) ∙ no_minus_zero (eqb (get_or s at 0) a) (eqb n 0)

  -- the number of a sign and a magnitude that stand in the string
  pub signed_at : (a b m n : ℕ) → m ≡ n → signed (not (eqb (get_or s at 0) a)) m ≡ signed (negative (value_of (words 1 (letters (a ∷ b ∷ []))) (take 1 (drop at s)))) n
  signed_at a b m n e = ap (signed (not (eqb (get_or s at 0) a))) e ∙ ap (λ (t : Bool). signed t n) (sym (sign_letter s at h a b))

  -- the same of the byte that was read there and a magnitude that 32 bits hold
  pub signed_by : (a b x m n : ℕ) → x ≡ get_or s at 0 → m ≤ 2147483647 → m ≡ n
      → signed_number (not (eqb x a)) m ≡ signed (negative (value_of (words 1 (letters (a ∷ b ∷ []))) (take 1 (drop at s)))) n
  signed_by a b x m n e l q =
      signed_small (not (eqb x a)) m l ∙ ap (λ (y : ℕ). signed (not (eqb y a)) m) e ∙ signed_at a b m n q

-- a position of the same numbers
pub same_position : (a b x y : ℤ) (m n : ℕ) → a ≡ b → x ≡ y → m ≡ n → Some (PositionIs.Degrees a x m) ≡ Some (PositionIs.Degrees b y n)
same_position a b x y m n p q e = cc
