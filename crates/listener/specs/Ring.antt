-- A ring with a place for each byte of the longest string.
use Rattle.std.specs.Prelude.{List, ◌++◌, ◌≡◌, ℕ, ◌-◌, ◌≤◌, ◌<◌, ltb, get_or, take, drop}
use Rattle.serial.specs.Shape.{longest, shape_of}
use Rattle.serial.specs.declared.Shape.{Shape}
use Rattle.cond.specs.Pick.{pick}

-- the place of a number below two rounds
abbrev pub wrapped : ℕ → ℕ
wrapped k = pick (ltb k longest) k (k - longest)

-- the place where the next byte goes: every number names one, so that every state has a meaning
abbrev pub place_of : ℕ → ℕ
place_of at = pick (ltb at longest) at 0

-- the bytes of the ring, oldest first, where the next byte goes to place `at`
unfoldable pub oldest_first : ℕ → List ℕ → List ℕ
oldest_first at y = drop at y ++ take at y

-- what a string that byte b completes is sought in: b is the newest byte of the ring, and fewer bytes than a string has were held before it
pub record Completing (form : ℕ) (shape : Shape) (at : ℕ) (y : List ℕ) (kept b : ℕ) : Type 0 where
  pub shape_is : shape ≡ shape_of form
  pub place : at < longest
  pub few : kept < shape.length
  pub most : shape.length ≤ longest
  pub newest : get_or (oldest_first at y) (longest - 1) 0 ≡ b
