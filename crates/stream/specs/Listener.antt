-- The listener over the bytes that it keeps: m of them, where a string of n bytes needs n-1.
use Rattle.std.specs.Prelude.{List, [], ◌∷◌, ◌++◌, ℕ, ◌+◌, leb, length, Option, None}
use Rattle.cond.specs.Pick.{pick}
use Rattle.stream.specs.Answer.{Answer, handed_out}
use Rattle.stream.specs.Window.{last_of}

-- "The kept bytes are always the last n-1 fed": here the last m
unfoldable pub kept_after : ℕ → List ℕ → ℕ → List ℕ
kept_after m kept b = last_of m (kept ++ (b ∷ []))

-- "A byte yields a record exactly if the last n bytes fed are a valid string, and nothing otherwise."
unfoldable pub hit : {R : Type 0} → ℕ → (List ℕ → Option R) → List ℕ → ℕ → Option R
hit n valid kept b = pick (leb n (length kept + 1)) (valid (last_of n (kept ++ (b ∷ [])))) None

-- the answer of a listener that holds the kept bytes alone
abbrev pub kept_answer : {R : Type 0} → ℕ → (List ℕ → Option R) → List ℕ → ℕ → Answer R
kept_answer n valid kept b = handed_out (hit n valid kept b)
