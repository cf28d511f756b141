-- What is carried from one piece of a stream to the next.
use Rattle.std.specs.Prelude.{List, ◌++◌, ◌≡◌, ℕ, ◌-◌, length, drop, take}
use Rattle.forms.specs.Valid.{length_of}
use Rattle.stream.specs.Window.{last_of}

-- the last n-1 bytes; none where there is no such form
unfoldable pub carried_of : ℕ → List ℕ → List ℕ
carried_of form s = last_of (length_of form - 1) s

-- what the contract of `carry_over` says: they stand at the head of the buffer, and the bytes behind them stay
pub record Carried (form end k : ℕ) (before after : List ℕ) : Type 0 where
  pub count : k ≡ length (carried_of form (take end before))
  pub left : after ≡ carried_of form (take end before) ++ drop k before
