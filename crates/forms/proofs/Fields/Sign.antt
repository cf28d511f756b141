-- Signs: a letter and a number without a sign are a number with one, and the other way round.
use Rattle.cond.proofs.Kit.{◌<◌, ◌∙◌, ◌≡◌, ap, ap₂, arith, Bool, false, nat_abs, ne_eqb, negsuc, pos, refl, suc, true, zero, ℕ, ℤ}
use Rattle.cond.specs.Pick.{one_if}
use Rattle.record.specs.Sign.{is_negative, signed}
use Rattle.record.proofs.Signs.{negative_signed, signed_back}
use Rattle.forms.specs.Fields.Sign.{negative, sign_consistent}

letter_sign : (n : ℕ) → n < 2 → one_if (negative n) ≡ n
letter_sign zero l = refl
letter_sign (suc zero) l = refl
letter_sign (suc (suc n)) l = absurd (omega arith)

-- the sign that was read
pub sign_encoded : (sign n : ℕ) → sign_consistent sign n ≡ true → sign < 2 → one_if (is_negative (signed (negative sign) n)) ≡ sign
unfolding sign_consistent
sign_encoded sign n t l = ap one_if (negative_signed (negative sign) n t) ∙ letter_sign sign l

sign_of : (b : Bool) (n : ℕ) → n ≡ one_if b → negative n ≡ b
sign_of false n e = simp e
sign_of true n e = simp e

-- the number that was written
pub signed_decoded : (z : ℤ) (sign n : ℕ) → sign ≡ one_if (is_negative z) → n ≡ nat_abs z → signed (negative sign) n ≡ z
signed_decoded z sign n p q = ap₂ signed (sign_of (is_negative z) sign p) q ∙ signed_back z

-- its sign agrees with its magnitude
pub signs_consistent_lem : (z : ℤ) (sign n : ℕ) → sign ≡ one_if (is_negative z) → n ≡ nat_abs z → sign_consistent sign n ≡ true
unfolding sign_consistent
signs_consistent_lem (pos m) sign n p q = rw p refl
signs_consistent_lem (negsuc m) sign n p q = simp (p, q, ne_eqb (suc m) 0 (λ e. omega (arith, e)))

pub plus_consistent : (sign n : ℕ) → sign ≡ 0 → sign_consistent sign n ≡ true
unfolding sign_consistent
plus_consistent sign n p = rw p refl
