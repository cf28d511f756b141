-- W-206: which second is the next, as a table.
use Rattle.std.specs.Prelude.{Bool, true, false, List, [], ◌∷◌, map, ◌≡◌, ℕ}
use Prim.Native.String.{String}
use Rattle.runs.specs.declared.second.Second.{Second}
use Rattle.runs.specs.Seconds.{is_next}

abbrev pub at : ℕ → ℕ → ℕ → ℕ → ℕ → ℕ → Second
at y k d h m s = record { yy = y; month = k; day = d; hour = h; minute = m; second = s }

-- a second, another one, and whether it is the next
pub record NextCase : Type 0 where
  pub name : String
  pub first : Second
  pub then : Second
  pub next : Bool

abbrev follows : String → Second → Second → NextCase
follows n a b = record { name = n; first = a; then = b; next = true }

abbrev opens : String → Second → Second → NextCase
opens n a b = record { name = n; first = a; then = b; next = false }

abbrev pub next_cases : List NextCase
next_cases =
    follows "within a minute" (at 24 2 29 12 0 0) (at 24 2 29 12 0 1)
    ∷ follows "59, then 60" (at 16 12 31 23 59 59) (at 16 12 31 23 59 60)
    ∷ follows "60, then the next minute" (at 16 12 31 23 59 60) (at 17 1 1 0 0 0)
    ∷ follows "59, then the next minute" (at 16 12 31 23 59 59) (at 17 1 1 0 0 0)
    ∷ follows "60 in any minute" (at 24 6 1 10 29 59) (at 24 6 1 10 29 60)
    ∷ follows "28 February of a year without a leap day" (at 23 2 28 23 59 59) (at 23 3 1 0 0 0)
    ∷ follows "1999, then 2000" (at 99 12 31 23 59 59) (at 0 1 1 0 0 0)
    ∷ opens "58, then the next minute" (at 24 2 28 23 59 58) (at 24 2 29 0 0 0)
    ∷ opens "60, then the second 1 of the next minute" (at 16 12 31 23 59 60) (at 17 1 1 0 0 1)
    ∷ opens "58, then 60" (at 16 12 31 23 59 58) (at 16 12 31 23 59 60)
    ∷ opens "28 February of a leap year" (at 24 2 28 23 59 59) (at 24 3 1 0 0 0)
    ∷ opens "a repeat" (at 24 2 29 0 0 0) (at 24 2 29 0 0 0)
    ∷ opens "a clock set back" (at 24 10 27 2 59 59) (at 24 10 27 2 0 0)
    ∷ opens "behind the calendar's last minute" (at 79 12 31 23 59 59) (at 80 1 1 0 0 0)
    ∷ opens "an impossible second" (at 23 2 29 0 0 0) (at 23 2 29 0 0 1)
    ∷ []

pub record Cases : Type 0 where
  pub next : map (λ c. is_next c.first c.then) next_cases ≡ map (λ c. c.next) next_cases
