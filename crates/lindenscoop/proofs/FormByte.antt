-- The form's byte and the form's number lead to each other: the lowest of the high bits is turned over, and the low four stay.
use lib.Bits.{xor_mod, xor_shr, xor_zero_r}
use Rattle.cond.proofs.Kit.{◌%◌, ◌*◌, ◌+◌, ◌-◌, ◌/◌, ◌<◌, ◌∙◌, ◌≡◌, arith, differ, refl, suc, xor_lt, xor_step, zero, ℕ}
use Rattle.lindenscoop.specs.State.{versioned}

turned : (d : ℕ) → d < 2 → differ d 1 ≡ 1 - d
turned zero h = refl
turned (suc zero) h = refl
turned (suc (suc d)) h = absurd (omega arith)

module _ (x : ℕ) where
  pub high : versioned x / 16 ≡ x / 16 / 2 * 2 + (1 - x / 16 % 2)
  high = xor_shr x 16 4 ∙ xor_step (x / 16) 1 ∙ rw (xor_zero_r (x / 16 / 2), turned (x / 16 % 2) (omega arith))

  low : versioned x % 16 ≡ x % 16
  low = xor_mod x 16 4 ∙ xor_zero_r (x % 16)

  pub fits_byte : x < 256 → versioned x < 256
  fits_byte h = xor_lt 8 x 16 h (omega arith)

pub there_and_back : (x : ℕ) → versioned (versioned x) ≡ x
there_and_back x = omega (arith, high x, low x, high (versioned x), low (versioned x))
