-- What a listener answers to a byte: a record, nothing, or a refusal with the paper's number.
use Rattle.std.specs.Prelude.{List, [], ◌∷◌, ℕ, ◌-◌, get_or, Option, None, Some}

pub data Answer (R : Type 0) : Type 0 where
  handed : R → Answer R
  nothing : Answer R
  refused : ℕ → Answer R

module _ {R : Type 0} where
  -- "hands out the record .., else nothing"
  abbrev pub handed_out : Option R → Answer R
  handed_out None = nothing
  handed_out (Some r) = handed r

  -- the answer to byte k, counted from 1
  abbrev pub answer_at : List (Answer R) → ℕ → Answer R
  answer_at list k = get_or list (k - 1) nothing

  -- the records handed out, in order
  unfoldable pub records_of : List (Answer R) → List R
  records_of [] = []
  records_of (handed r ∷ list) = r ∷ records_of list
  records_of (nothing ∷ list) = records_of list
  records_of (refused c ∷ list) = records_of list
