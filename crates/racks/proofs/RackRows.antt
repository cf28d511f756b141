-- The rows of a rack as they are found in a table are those of the definitions, and which tables are refused; what holds of one that is not.
use Rattle.cond.proofs.Kit.{◌&&◌, ◌<◌, ◌∙◌, ◌≡◌, ◌≤◌, arith, Bool, eq-eqb, eqb, eqb-true, false, le-leb, leb, leb-true, length, ne_eqb, le-ltb, lt-ltb, add-one, length-append, length-take-le, List, lt-leb, ltb, not, not-true, refl, suc, sym, take, true, zero, ℕ, set, ltb-true, ◌+◌, get_or-take, eqb-false}
use Rattle.std.specs.Prelude.{Some, Option}
use Rattle.cond.proofs.Tests.{both, other, or_left, or_right}
use Rattle.record.specs.declared.Record.{Record}
use Rattle.record.specs.declared.refusal.Refusal.TheVariants as refusal
use Rattle.runs.specs.declared.Run.{Run}
use Rattle.runs.specs.declared.second.Second.{Second}
use Rattle.runs.specs.Heard.{second_in}
use Rattle.runs.specs.Rows.{is_row, joins, longer}
use Rattle.runs.specs.Seconds.{is_second}
use Rattle.racks.specs.declared.Outcome.TheVariants as outcome
use Rattle.racks.specs.declared.Row.{Row}
use Rattle.racks.specs.declared.rack_rows.RackRows.{RackRows}
use Rattle.racks.specs.RackRows.{BothRacks, OwnRows, Refuses, seen_of}
use Rattle.racks.specs.Rows.{is_rack, is_table, no_row, others, own, rack_holds, row_at, added_to, answered, opened, unchanged, with_second, with_told}
use Rattle.racks.proofs.Answers.{added_bad, added_none, added_told}
use Rattle.racks.proofs.Own.{count, newest_lt, own_few}

-- what a walk over the rows in use has seen of the first i
pub record Walked (rows : List Row) (u i : ℕ) (y z : RackRows) : Type 0 where
  pub inside : u ≤ length rows
  pub few : i ≤ u
  pub only : others rows i ≡ false
  pub zero_is : y ≡ seen_of 0 rows i
  pub one_is : z ≡ seen_of 1 rows i

stays_by : (rows : List Row) (i u : ℕ) (b : Bool) → eqb i u ≡ b → 1 < (row_at rows i).rack → ((i ≡ u → ⊥) → others rows u ≡ true) → others rows (suc u) ≡ true
stays_by rows i u true e h f = or_right (others rows u) _ (rw (← eqb-true i u e) (lt-ltb 1 _ h))
stays_by rows i u false e h f = or_left (others rows u) _ (f (eqb-false i u e))

stays : (rows : List Row) (i u : ℕ) → i < u → 1 < (row_at rows i).rack → others rows u ≡ true
stays rows i zero l h = absurd (omega arith)
stays rows i (suc u) l h = stays_by rows i u _ refl h (λ n. stays rows i u (omega arith) h)

module _ (rows : List Row) (u i : ℕ) (y z : RackRows) (w : Walked rows u i y z) where
  pub count_lt : i < u → u ≤ 64 → (y.count < 64) × (z.count < 64)
  count_lt l f = rw (w.zero_is, w.one_is) (omega (arith, own_few 0 rows i), omega (arith, own_few 1 rows i))

  pub places_lt : u ≤ 64 → (y.newest < 64) × (z.newest < 64)
  places_lt f = let l = w.few in rw (w.zero_is, w.one_is) (newest_lt 0 rows i (omega arith), newest_lt 1 rows i (omega arith))

  pub all_walked : u ≤ i → BothRacks rows u y z
  all_walked l = let e : i ≡ u = omega (arith, w.few) in rw (← e) record { only = w.only; zero_is = w.zero_is; one_is = w.one_is }

  module _ (l : i < length (take u rows)) where
    below : i < u
    below = omega (arith, length-take-le u rows w.inside)

    row_is : row_at (take u rows) i ≡ row_at rows i
    row_is = get_or-take u rows i no_row below

    pub walked_zero : (row_at (take u rows) i).rack ≡ 0 → Walked rows u (i + 1) (record { count = y.count + 1; newest = i }) z
    walked_zero e =
        rw (add-one i, w.zero_is, w.one_is) record { inside = w.inside; few = omega (arith, below); only = rw (w.only, ← row_is, e); zero_is = rw (← row_is, e, length-append); one_is = rw (← row_is, e) }

    pub walked_one : (row_at (take u rows) i).rack ≡ 1 → Walked rows u (i + 1) y (record { count = z.count + 1; newest = i })
    walked_one e =
        rw (add-one i, w.zero_is, w.one_is) record { inside = w.inside; few = omega (arith, below); only = rw (w.only, ← row_is, e); zero_is = rw (← row_is, e); one_is = rw (← row_is, e, length-append) }

    pub none_walked : ((row_at (take u rows) i).rack ≡ 0 → ⊥) → ((row_at (take u rows) i).rack ≡ 1 → ⊥) → others rows u ≡ true
    none_walked m n = let h : 1 < (row_at (take u rows) i).rack = omega arith in stays rows i u below (rw row_is at h)

-- why a record is refused for its rack or its table, by the tests in their order
pub no_rack : (rows : List Row) (u k : ℕ) → 1 < k → Refuses rows u k refusal.NoRack
no_rack rows u k l r = added_none rows u k r (lt-leb k 1 l)

pub other_length : (rows : List Row) (u k : ℕ) → k ≤ 1 → (length rows ≡ 64 → ⊥) → Refuses rows u k refusal.BadTable
unfolding is_table
other_length rows u k l n r = added_bad rows u k r (le-leb k 1 l) (rw (ne_eqb (length rows) 64 n))

pub more_in_use : (rows : List Row) (u k : ℕ) → k ≤ 1 → length rows ≡ 64 → 64 < u → Refuses rows u k refusal.BadTable
unfolding is_table
more_in_use rows u k l f m r = added_bad rows u k r (le-leb k 1 l) (rw (eq-eqb (length rows) 64 f, lt-leb u 64 m))

pub other_rack : (rows : List Row) (u k : ℕ) → k ≤ 1 → length rows ≡ 64 → u ≤ 64 → others rows u ≡ true → Refuses rows u k refusal.BadTable
unfolding is_table
other_rack rows u k l f m h r = added_bad rows u k r (le-leb k 1 l) (rw (eq-eqb (length rows) 64 f, le-leb u 64 m, h))

module _ (rows : List Row) (u k : ℕ) (y z : RackRows) (f : length rows ≡ 64) (m : u ≤ 64) (w : BothRacks rows u y z) where
  abbrev both_hold : Bool
  both_hold = is_rack y.count (row_at rows y.newest).run && is_rack z.count (row_at rows z.newest).run

  table_is : both_hold ≡ is_table rows u
  unfolding is_table
  table_is = rw (w.zero_is, w.one_is, eq-eqb (length rows) 64 f, le-leb u 64 m, w.only)

  pub not_held : k ≤ 1 → both_hold ≡ false → Refuses rows u k refusal.BadTable
  not_held l h r = added_bad rows u k r (le-leb k 1 l) (sym table_is ∙ h)

  pub own_zero : k ≡ 0 → both_hold ≡ true → OwnRows rows u k y (row_at rows y.newest).run
  own_zero e h = rw e record { rack = omega arith; table = sym table_is ∙ h; is = w.zero_is; run_is = rw w.zero_is refl }

  pub own_one : k ≡ 1 → both_hold ≡ true → OwnRows rows u k z (row_at rows z.newest).run
  own_one e h = rw e record { rack = omega arith; table = sym table_is ∙ h; is = w.one_is; run_is = rw w.one_is refl }

-- a table that is not refused, and that it has a row left where one of its racks has
pub record Counted (rows : List Row) (u : ℕ) : Type 0 where
  pub full : length rows ≡ 64
  pub few : u ≤ 64
  pub only : others rows u ≡ false
  pub zero_holds : rack_holds 0 rows u ≡ true
  pub one_holds : rack_holds 1 rows u ≡ true

pub counted : (rows : List Row) (u : ℕ) → is_table rows u ≡ true → Counted rows u
unfolding is_table
counted rows u h =
    let f = both (eqb (length rows) 64) _ h in
    let a = both (leb u 64) _ f.1 in
    let b = both (not (others rows u)) _ a.1 in
    let c = both (rack_holds 0 rows u) _ b.1 in
    record { full = eqb-true (length rows) 64 f.0; few = leb-true u 64 a.0; only = not-true (others rows u) b.0; zero_holds = c.0; one_holds = c.1 }

few : (rows : List Row) (u k : ℕ) → rack_holds k rows u ≡ true → length (own k rows u) ≤ 32
unfolding is_rack
few rows u k h = leb-true _ 32 (both _ _ h).0

pub room : (rows : List Row) (u k : ℕ) → Counted rows u → k ≤ 1 → length (own k rows u) < 32 → u < 64
room rows u zero c l h = omega (arith, count rows u c.only, few rows u 1 c.one_holds)
room rows u (suc zero) c l h = omega (arith, count rows u c.only, few rows u 0 c.zero_holds)
room rows u (suc (suc k)) c l h = absurd (omega arith)

holds : (rows : List Row) (u k : ℕ) → k ≤ 1 → Counted rows u → rack_holds k rows u ≡ true
holds rows u zero l c = c.zero_holds
holds rows u (suc zero) l c = c.one_holds
holds rows u (suc (suc k)) l c = absurd (omega arith)

-- a run that is joined has room for its next second
join_count : (n : Run) (m : ℕ) (s : Second) → is_rack m n ≡ true → joins n m s ≡ true → n.count ≤ 4000000000
unfolding is_rack is_row joins
join_count n m s known h =
    let some = ltb-true 0 m (both (ltb 0 m) _ h).0 in
    let row = other (eqb m 0) (is_row n) (both (leb m 32) _ known).1 (ne_eqb m 0 (λ e. omega arith)) in
    leb-true n.count 4000000000 (both (is_second n.last) _ row).1

module _ (rows : List Row) (u k : ℕ) (r : Record) (o : RackRows) (n : Run) (w : OwnRows rows u k o n) where
  pub opened_room : o.count < 32 → (u < 64) × (length rows ≡ 64)
  opened_room l = let c = counted rows u w.table in (room rows u k c w.rack (rw w.is at l), c.full)

  pub told_as : (t : Option Second) → second_in r ≡ t → added_to rows u k r ≡ with_told rows u k t
  told_as t e = added_told rows u k r (le-leb k 1 w.rack) w.table t e

  pub join_fits : (s : Second) → joins n o.count s ≡ true → n.count ≤ 4000000000
  join_fits s h = join_count n o.count s (rw (w.is, w.run_is) (holds rows u k w.rack (counted rows u w.table))) h

  module _ (s : Second) (e : second_in r ≡ Some s) where
    pub joined_is : joins n o.count s ≡ true
        → added_to rows u k r ≡ record { answer = answered outcome.Joined u; rows = set rows o.newest (record { rack = k; run = longer n s }) }
    unfolding with_second
    joined_is h = told_as _ e ∙ rw (w.is, w.run_is, rw (w.is, w.run_is) at h)

    pub opened_is : joins n o.count s ≡ false → o.count < 32 → added_to rows u k r ≡ opened rows u k s
    unfolding with_second
    opened_is h l = told_as _ e ∙ rw (rw (w.is, w.run_is) at h, rw w.is at (lt-ltb o.count 32 l))

    pub full_is : joins n o.count s ≡ false → 32 ≤ o.count → added_to rows u k r ≡ unchanged refusal.NoRow rows
    unfolding with_second
    full_is h l = told_as _ e ∙ rw (rw (w.is, w.run_is) at h, rw w.is at (le-ltb o.count 32 l))
