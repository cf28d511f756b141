-- "where a start byte may stand": at the head of a valid string, and nowhere else in it.
use Rattle.std.specs.Prelude.{List, [], ◌∷◌, ◌≡◌, ℕ, ◌<◌, length, get_or}
use Rattle.forms.specs.Places.{Layout, fixed, part}

-- the first byte of a layout, 0 where that is no fixed byte
abbrev pub start_byte : Layout → ℕ
start_byte [] = 0
start_byte (part c f ∷ ps) = 0
start_byte (fixed [] ∷ ps) = 0
start_byte (fixed (b ∷ bs) ∷ ps) = b

-- a byte that a string starts with and has nowhere else
pub record OnlyAtHead (b : ℕ) (s : List ℕ) : Type 0 where
  pub head : get_or s 0 0 ≡ b
  pub nowhere_else : (i : ℕ) → 0 < i → i < length s → get_or s i 0 ≡ b → ⊥
