-- W-207: the rows of each rack, what one record does to them, and what is answered.
use Rattle.std.specs.Prelude.{Bool, true, false, ◌&&◌, ◌||◌, not, List, [], ◌∷◌, ◌++◌, ℕ, zero, suc, ◌+◌, leb, ltb, eqb, length, get_or, set, Option, Some, None, Result, Ok, Err}
use Rattle.cond.specs.Pick.{pick}
use Rattle.record.specs.declared.Record.{Record}
use Rattle.record.specs.declared.refusal.Refusal.{Refusal}
use Rattle.record.specs.declared.refusal.Refusal.TheVariants as refusal
use Rattle.runs.specs.declared.Run.{Run}
use Rattle.runs.specs.declared.second.Second.{Second}
use Rattle.runs.specs.Heard.{second_in}
use Rattle.runs.specs.Rows.{is_row, joins, longer, single}
use Rattle.racks.specs.declared.Added.{Added}
use Rattle.racks.specs.declared.Placed.{Placed}
use Rattle.racks.specs.declared.Outcome.{Outcome}
use Rattle.racks.specs.declared.Outcome.TheVariants as outcome
use Rattle.racks.specs.declared.Row.{Row}

-- a refusal
abbrev pub is_refusal : Result Outcome Refusal → Bool
is_refusal (Ok x) = false
is_refusal (Err x) = true

-- row i of a table; past its end stands this one, which is never looked at
abbrev pub no_second : Second
no_second = record { yy = 0; month = 0; day = 0; hour = 0; minute = 0; second = 0 }

abbrev pub no_row : Row
no_row = record { rack = 0; run = record { first = no_second; last = no_second; count = 0 } }

abbrev pub row_at : List Row → ℕ → Row
row_at rows i = get_or rows i no_row

-- "Rows carry the rack": row i is of rack k
abbrev pub is_of : ℕ → List Row → ℕ → Bool
is_of k rows i = eqb (row_at rows i).rack k

-- "the list of its own rows in order": of the first i rows, the runs of rack k
abbrev pub own : ℕ → List Row → ℕ → List Run
own k rows zero = []
own k rows (suc i) = pick (is_of k rows i) (own k rows i ++ ((row_at rows i).run ∷ [])) (own k rows i)

-- "the newest run of its own rack": where it stands, 0 where there is none, and the run
abbrev pub newest_at : ℕ → List Row → ℕ → ℕ
newest_at k rows zero = 0
newest_at k rows (suc i) = pick (is_of k rows i) i (newest_at k rows i)

abbrev pub newest : ℕ → List Row → ℕ → Run
newest k rows i = (row_at rows (newest_at k rows i)).run

-- "a row in use of another rack number"
abbrev pub others : List Row → ℕ → Bool
others rows zero = false
others rows (suc i) = others rows i || ltb 1 (row_at rows i).rack

-- "over 32 of one rack", or its newest row is none, where this is false
unfoldable pub is_rack : ℕ → Run → Bool
is_rack count newest = leb count 32 && (eqb count 0 || is_row newest)

abbrev pub rack_holds : ℕ → List Row → ℕ → Bool
rack_holds k rows used = is_rack (length (own k rows used)) (newest k rows used)

-- "21 the table is not of 64 rows, the number in use is over 64 or .."; "it reads both racks' newest rows"
unfoldable pub is_table : List Row → ℕ → Bool
is_table rows used = eqb (length rows) 64 && (leb used 64 && (not (others rows used) && (rack_holds 0 rows used && rack_holds 1 rows used)))

-- an answer and the rows afterwards
pub record After : Type 0 where
  pub answer : Result Placed Refusal
  pub rows : List Row

abbrev pub answered : Outcome → ℕ → Result Placed Refusal
answered x used = Ok (record { outcome = x; used = used })

-- "Each answer carries the number in use.": behind a refusal it is the number that was handed in
abbrev pub used_after : ℕ → Result Placed Refusal → ℕ
used_after used (Ok a) = a.used
used_after used (Err x) = used

-- what was done, without the number in use
abbrev pub outcome_of : Result Placed Refusal → Result Outcome Refusal
outcome_of (Ok a) = Ok a.outcome
outcome_of (Err x) = Err x

-- what a call answers: "Each answer carries the number in use."
abbrev pub added_of : ℕ → Result Placed Refusal → Added
added_of used a = record { outcome = outcome_of a; used = used_after used a }

-- "all change nothing"
abbrev pub unchanged : Refusal → List Row → After
unchanged x rows = record { answer = Err x; rows = rows }

abbrev pub joined : List Row → ℕ → ℕ → Second → After
joined rows used k s =
    record { answer = answered outcome.Joined used; rows = set rows (newest_at k rows used) (record { rack = k; run = longer (newest k rows used) s }) }

-- "Rows .. stand in order of arrival."
abbrev pub opened : List Row → ℕ → ℕ → Second → After
opened rows used k s = record { answer = answered outcome.Opened (used + 1); rows = set rows used (record { rack = k; run = single s }) }

-- "A record is joined to the newest run of its own rack"; "15 now means that a row is needed and this rack has 32"
unfoldable pub with_second : List Row → ℕ → ℕ → Second → After
with_second rows used k s =
    pick (joins (newest k rows used) (length (own k rows used)) s) (joined rows used k s)
    (pick (ltb (length (own k rows used)) 32) (opened rows used k s) (unchanged refusal.NoRow rows))

-- "then 14 no full date or a bad record"
abbrev pub with_told : List Row → ℕ → ℕ → Option Second → After
with_told rows used k (Some s) = with_second rows used k s
with_told rows used k None = unchanged refusal.NoSecond rows

-- "Refusals: 16 rack is not 0 or 1, first of all; 21 ..", then 14, then 15
unfoldable pub added_to : List Row → ℕ → ℕ → Record → After
added_to rows used k r =
    pick (leb k 1) (pick (is_table rows used) (with_told rows used k (second_in r)) (unchanged refusal.BadTable rows)) (unchanged refusal.NoRack rows)
