-- Calls one after the other, each on the rows and the number in use that the one before it left.
use Rattle.std.specs.Prelude.{Bool, true, not, List, [], ◌∷◌, ◌++◌, map, ℕ, eqb, take, Option, Some, None, Result}
use Rattle.cond.specs.Pick.{pick}
use Rattle.record.specs.declared.Record.{Record}
use Rattle.record.specs.declared.refusal.Refusal.{Refusal}
use Rattle.runs.specs.declared.Run.{Run}
use Rattle.runs.specs.declared.second.Second.{Second}
use Rattle.runs.specs.Afresh.{last_from}
use Rattle.runs.specs.Heard.{second_in}
use Rattle.runs.specs.Seconds.{is_next}
use Rattle.racks.specs.declared.Outcome.{Outcome}
use Rattle.racks.specs.declared.Row.{Row}
use Rattle.racks.specs.Rows.{added_to, is_refusal, outcome_of, own, used_after}

-- a table and its number in use
pub record Table : Type 0 where
  pub rows : List Row
  pub used : ℕ

-- "an empty table": none of its rows is in use, whatever they hold
abbrev pub empty : List Row → Table
empty rows = record { rows = rows; used = 0 }

abbrev pub in_use : Table → List Row
in_use t = take t.used t.rows

-- "the list of its own rows in order"
abbrev pub own_of : ℕ → Table → List Run
own_of k t = own k t.rows t.used

-- a record and the rack that it comes from, whatever number that is
pub record Call : Type 0 where
  pub rack : ℕ
  pub given : Record

abbrev pub call : ℕ → Record → Call
call k r = record { rack = k; given = r }

-- what a call on the table answers, and the table that it leaves
abbrev pub told : Table → Call → Result Outcome Refusal
told t c = outcome_of (added_to t.rows t.used c.rack c.given).answer

abbrev pub after : Table → Call → Table
after t c = record {
  rows = (added_to t.rows t.used c.rack c.given).rows;
  used = used_after t.used (added_to t.rows t.used c.rack c.given).answer;
}

-- a list of calls: the answers, and the table at the end
abbrev pub answers : Table → List Call → List (Result Outcome Refusal)
answers t [] = []
answers t (c ∷ cs) = told t c ∷ answers (after t c) cs

abbrev pub after_all : Table → List Call → Table
after_all t [] = t
after_all t (c ∷ cs) = after_all (after t c) cs

-- "what one rack is told"
abbrev pub told_to : ℕ → Table → List Call → List (Result Outcome Refusal)
told_to k t [] = []
told_to k t (c ∷ cs) = pick (eqb c.rack k) (told t c ∷ told_to k (after t c) cs) (told_to k (after t c) cs)

-- the records of one rack
abbrev pub records_of : ℕ → List Call → List Record
records_of k [] = []
records_of k (c ∷ cs) = pick (eqb c.rack k) (c.given ∷ records_of k cs) (records_of k cs)

-- "the records not refused"
abbrev pub not_refused : Table → List Call → List Call
not_refused t [] = []
not_refused t (c ∷ cs) = pick (is_refusal (told t c)) (not_refused (after t c) cs) (c ∷ not_refused (after t c) cs)

-- the seconds that records tell, in their order
abbrev pub listed : Option Second → List Second
listed (Some s) = s ∷ []
listed None = []

abbrev pub seconds_of : List Record → List Second
seconds_of [] = []
seconds_of (r ∷ rs) = listed (second_in r) ++ seconds_of rs

-- the second with which a row was opened, and its rack
pub record Opening : Type 0 where
  pub rack : ℕ
  pub first : Second

abbrev pub opening_of : Row → Opening
opening_of y = record { rack = y.rack; first = y.run.first }

-- whether a second opens a row, by those that its rack told before: it is not the next of the last one
abbrev pub opens_behind : List Second → Second → Bool
opens_behind [] s = true
opens_behind (a ∷ ss) s = not (is_next (last_from a ss) s)

-- the openings of a list of calls, in "order of arrival", by the list alone: each call behind those before it
abbrev pub opening_on : List Call → ℕ → Option Second → List Opening
opening_on before k (Some s) = pick (opens_behind (seconds_of (records_of k before)) s) (record { rack = k; first = s } ∷ []) []
opening_on before k None = []

abbrev pub openings_from : List Call → List Call → List Opening
openings_from before [] = []
openings_from before (c ∷ cs) = opening_on before c.rack (second_in c.given) ++ openings_from (before ++ (c ∷ [])) cs

abbrev pub openings : List Call → List Opening
openings cs = openings_from [] cs

-- "the case of rack 0 alone"
abbrev pub of_rack_zero : List Record → List Call
of_rack_zero rs = map (call 0) rs

abbrev pub row_of_zero : Run → Row
row_of_zero n = record { rack = 0; run = n }
