-- A signed number as the strings spell it: a sign and a magnitude.
use Rattle.std.specs.Prelude.{Bool, true, false, ℕ, zero, suc, leb, ℤ, negsuc, pos}
use Rattle.cond.specs.Pick.{pick}

-- below zero
abbrev pub is_negative : ℤ → Bool
is_negative (pos n) = false
is_negative (negsuc n) = true

-- the number of this sign and magnitude; zero has no sign
abbrev pub signed : Bool → ℕ → ℤ
signed false n = pos n
signed true zero = pos 0
signed true (suc n) = negsuc n

-- the same in 32 bits, 0 where the magnitude is too large for them
unfoldable pub signed_number : Bool → ℕ → ℤ
signed_number negative n = pick (leb n 2147483647) (signed negative n) (pos 0)
