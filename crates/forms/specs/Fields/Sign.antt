-- Signs: `-`, `S` and `W`, which offset and position share.
use Rattle.std.specs.Prelude.{Bool, true, false, ◌&&◌, not, ℕ, zero, suc, eqb}

-- `-`, `S` and `W` are the second letters of the signs
abbrev pub negative : ℕ → Bool
negative zero = false
negative (suc n) = true

-- "minus, S or W on a zero": a zero has no minus
unfoldable pub sign_consistent : ℕ → ℕ → Bool
sign_consistent sign n = not (negative sign && eqb n 0)
