-- Runs that grow from one second stay possible rows: the calendar has too few seconds for a count over 4,000,000,000.
use Rattle.cond.proofs.Kit.{[], ◌&&◌, ◌*◌, ◌+◌, ◌++◌, ◌<◌, ◌∷◌, ◌≡◌, ◌≤◌, ◌⊎◌, arith, Bool, eqb, eqb-true, false, inl, inr, le-leb, leb, List, refl, true, ℕ}
use Rattle.std.specs.Prelude.{None, Option, Some}
use Rattle.cond.proofs.Tests.{both, both_hold, either}
use Rattle.record.specs.Record.{date_in_range, date_time_in_range, in_range, is_good, time_in_range, zone_agrees}
use Rattle.record.specs.declared.Date.{Date}
use Rattle.record.specs.declared.Date.TheVariants as DateIs
use Rattle.record.specs.declared.Record.{Record}
use Rattle.runs.specs.declared.Run.{Run}
use Rattle.runs.specs.declared.second.Second.{Second}
use Rattle.runs.specs.Heard.{second_in, second_on}
use Rattle.runs.specs.Rows.{is_row, longer, single}
use Rattle.runs.specs.Seconds.{in_minute, is_next, is_second, minute_of, over_minute, same_minute}
use Rattle.runs.proofs.Grown.{extended, follows}
use Rattle.runs.proofs.Seconds.{minute_lt, second_range}

-- the second that a record tells is of the calendar
abbrev Known : Option Second → Type 0
Known (Some s) = is_second s ≡ true
Known None = Unit {0}

known_on : (d : Option Date) (h m s : ℕ) → time_in_range h m s ≡ true → date_in_range d ≡ true → Known (second_on d h m s)
unfolding is_second date_in_range
known_on None h m s t e = tt
known_on (Some (DateIs.Full y k d)) h m s t e = both_hold _ _ t e
known_on (Some (DateIs.DayOfYear n)) h m s t e = tt

known_by : (r : Record) (g : Bool) → is_good r ≡ g → Known (second_in r)
unfolding second_in is_good in_range
known_by r true e =
    let g = both (time_in_range r.hour r.minute r.second) _ (both (date_time_in_range r) _ (both (in_range r) (zone_agrees r) e).0).0 in
    rw e (known_on r.date r.hour r.minute r.second g.0 g.1)
known_by r false e = rw e tt

pub told_second : (r : Record) (s : Second) → second_in r ≡ Some s → is_second s ≡ true
told_second r s e = rw e at (known_by r _ refl)

-- where a second stands among those of the calendar, with 61 in each minute
abbrev rank : Second → ℕ
rank s = 61 * minute_of s + s.second

pub same_minute_of : (a b : Second) → same_minute a b ≡ true → minute_of a ≡ minute_of b
unfolding same_minute minute_of
same_minute_of a b h =
    let k = both (eqb a.minute b.minute && eqb a.hour b.hour) _ h in
    let time = both (eqb a.minute b.minute) _ k.0 in
    let date = both (eqb a.day b.day) _ k.1 in
    let month = both (eqb a.month b.month) _ date.1 in
    rw (
      eqb-true a.minute b.minute time.0,
      eqb-true a.hour b.hour time.1,
      eqb-true a.day b.day date.0,
      eqb-true a.month b.month month.0,
      eqb-true a.yy b.yy month.1,
    )

rank_in : (a b : Second) → (in_minute a b ≡ true) ⊎ (over_minute a b ≡ true) → is_second a ≡ true → rank a < rank b
unfolding in_minute over_minute
rank_in a b (inl h) k =
    let e = both (same_minute a b) _ h in
    omega (arith, same_minute_of a b e.0, eqb-true b.second (a.second + 1) e.1)
rank_in a b (inr h) k =
    let e = both (leb 59 a.second && eqb b.second 0) _ h in
    let l = second_range a k in
    omega (arith, eqb-true (minute_of b) (minute_of a + 1) e.1)

-- the next second is of the calendar, and comes later
pub next_second : (a b : Second) → is_next a b ≡ true → (is_second b ≡ true) × (rank a < rank b)
unfolding is_next
next_second a b h =
    let k = both (is_second a && is_second b) _ h in
    let s = both (is_second a) (is_second b) k.0 in
    (s.1, rank_in a b (either (in_minute a b) (over_minute a b) k.1) s.0)

-- a run that grew from one second
pub record Possible (n : Run) : Type 0 where
  pub ends : is_second n.last ≡ true
  pub few : n.count ≤ rank n.last + 1

pub single_possible : (s : Second) → is_second s ≡ true → Possible (single s)
single_possible s h = record { ends = h; few = omega arith }

pub longer_possible : (n : Run) (s : Second) → Possible n → is_next n.last s ≡ true → Possible (longer n s)
longer_possible n s p h = let k = next_second n.last s h in record { ends = k.0; few = omega (arith, p.few, k.1) }

pub possible_row : (n : Run) → Possible n → is_row n ≡ true
unfolding is_row
possible_row n p =
    let l = second_range n.last p.ends in
    both_hold _ _ p.ends (le-leb n.count 4000000000 (omega (arith, p.few, minute_lt n.last p.ends)))

-- the newest of these runs, if there is one, grew from one second
abbrev pub NewestPossible : List Run → Type 0
NewestPossible [] = Unit {0}
NewestPossible (n ∷ []) = Possible n
NewestPossible (n ∷ m ∷ ns) = NewestPossible (m ∷ ns)

pub newest_of : (p : List Run) (x : Run) → NewestPossible (p ++ (x ∷ [])) → Possible x
newest_of [] x h = h
newest_of (n ∷ []) x h = h
newest_of (n ∷ m ∷ p) x h = newest_of (m ∷ p) x h

pub newest_snoc : (p : List Run) (x : Run) → Possible x → NewestPossible (p ++ (x ∷ []))
newest_snoc [] x h = h
newest_snoc (n ∷ []) x h = h
newest_snoc (n ∷ m ∷ p) x h = newest_snoc (m ∷ p) x h

pub newest_extended : (ns : List Run) (s : Second) → NewestPossible ns → follows ns s ≡ true → NewestPossible (extended ns s)
newest_extended [] s h f = tt
newest_extended (n ∷ []) s h f = longer_possible n s h f
newest_extended (n ∷ m ∷ []) s h f = longer_possible m s h f
newest_extended (n ∷ m ∷ k ∷ ns) s h f = newest_extended (m ∷ k ∷ ns) s h f
