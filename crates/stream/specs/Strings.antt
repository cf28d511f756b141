-- What a form supplies: the number of its bytes, and valid strings that never overlap.
use Rattle.std.specs.Prelude.{List, ◌≡◌, ℕ, ◌+◌, ◌-◌, ◌<◌, length, get_or, Option, Some}

pub record Strings {R : Type 0} (n : ℕ) (valid : List ℕ → Option R) : Type 0 where
  pub some_byte : 0 < n
  -- "A valid string of a form is n bytes"
  pub sized : (u : List ℕ) (r : R) → valid u ≡ Some r → length u ≡ n
  -- where one begins j bytes behind the other's first byte, they differ at a byte that they share
  pub apart :
      (u v : List ℕ) (r q : R) (j : ℕ) → 0 < j → j < n → valid u ≡ Some r → valid v ≡ Some q
      → ((i : ℕ) → i < n - j → get_or u (j + i) 0 ≡ get_or v i 0) → ⊥
