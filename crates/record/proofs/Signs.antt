-- Laws of a sign and a magnitude.
use Rattle.cond.proofs.Kit.{◌&&◌, ◌≡◌, ◌≤◌, Bool, eqb, false, false≢true, le-leb, nat_abs, negsuc, neg_ℤ, not, pos, refl, suc, true, zero, ℕ, ℤ}
use Rattle.record.specs.Sign.{is_negative, signed, signed_number}

-- a number is its sign and its magnitude
pub signed_back : (z : ℤ) → signed (is_negative z) (nat_abs z) ≡ z
signed_back (pos n) = refl
signed_back (negsuc n) = refl

pub nat_abs_signed : (b : Bool) (n : ℕ) → nat_abs (signed b n) ≡ n
nat_abs_signed false n = refl
nat_abs_signed true zero = refl
nat_abs_signed true (suc n) = refl

-- the sign comes back, except for a minus on zero
pub negative_signed : (b : Bool) (n : ℕ) → not (b && eqb n 0) ≡ true → is_negative (signed b n) ≡ b
negative_signed false n h = refl
negative_signed true zero h = absurd (false≢true h)
negative_signed true (suc n) h = refl

-- a magnitude that 32 bits hold
pub signed_small : (b : Bool) (n : ℕ) → n ≤ 2147483647 → signed_number b n ≡ signed b n
unfolding signed_number
signed_small b n h = simp (le-leb n 2147483647 h)

-- the opposite of a number
pub nat_abs_opposite : (z : ℤ) → nat_abs (neg_ℤ z) ≡ nat_abs z
nat_abs_opposite (pos zero) = refl
nat_abs_opposite (pos (suc n)) = refl
nat_abs_opposite (negsuc n) = refl

pub opposite_signed : (n : ℕ) → neg_ℤ (pos n) ≡ signed true n
opposite_signed zero = refl
opposite_signed (suc n) = refl
