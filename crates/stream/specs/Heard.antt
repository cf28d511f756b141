-- What each byte of a list hands out: the record of the valid string that ends with it.
use Rattle.std.specs.Prelude.{List, [], ◌∷◌, ℕ, zero, suc, ◌+◌, ◌-◌, leb, length, Option, None}
use Rattle.cond.specs.Pick.{pick}
use Rattle.stream.specs.Answer.{Answer, handed_out, records_of}
use Rattle.stream.specs.Window.{window}

module _ {R : Type 0} where
  -- "Byte k, counted from 1, hands out the record of bytes k-n+1 to k if k is at least n and they are a valid string, else
  -- nothing"
  unfoldable pub heard_at : ℕ → (List ℕ → Option R) → List ℕ → ℕ → Option R
  heard_at n valid s k = pick (leb n k) (valid (window n s (k - n))) None

  -- what c bytes hand out, byte k first
  unfoldable pub heard_from : ℕ → (List ℕ → Option R) → List ℕ → ℕ → ℕ → List (Answer R)
  heard_from n valid s zero k = []
  heard_from n valid s (suc c) k = handed_out (heard_at n valid s k) ∷ heard_from n valid s c (k + 1)

  -- "one claim about the whole list of bytes": what its bytes hand out, one answer for each
  unfoldable pub heard_all : ℕ → (List ℕ → Option R) → List ℕ → List (Answer R)
  heard_all n valid s = heard_from n valid s (length s) 1

  -- the records of all valid strings in the list, in the order of their last bytes
  abbrev pub all_records : ℕ → (List ℕ → Option R) → List ℕ → List R
  all_records n valid s = records_of (heard_all n valid s)
