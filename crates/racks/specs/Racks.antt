-- W-207, and W-206 with it, as a reader of the requests would put them.
use Rattle.std.specs.Prelude.{true, List, map, ◌≡◌, ℕ, ◌≤◌, length, Err}
use Rattle.record.specs.declared.Record.{Record}
use Rattle.record.specs.declared.refusal.Refusal.TheVariants as refusal
use Rattle.runs.specs.Afresh.{runs_of}
use Rattle.racks.specs.declared.Row.{Row}
use Rattle.racks.specs.Calls.{Call, Table, after, after_all, call, empty, in_use, not_refused, of_rack_zero, opening_of, openings, own_of, records_of, row_of_zero, seconds_of, told, told_to}
use Rattle.racks.specs.Rows.{added_to, is_refusal, is_table, outcome_of, used_after}

pub record Racks : Type 0 where
  -- "From an empty table as in W-206, what one rack is told, and the list of its own rows in order, must be the same however the other rack's
  -- records are changed, dropped or added"
  pub isolated : (k : ℕ) → k ≤ 1 → (rows rows' : List Row) → length rows ≡ 64 → length rows' ≡ 64 → (cs ds : List Call) → records_of k cs ≡ records_of k ds
      → (told_to k (empty rows) cs ≡ told_to k (empty rows') ds) × (own_of k (after_all (empty rows) cs) ≡ own_of k (after_all (empty rows') ds))
  -- in any table that is not refused a rack's own rows alone say what it is told and what its rows are afterwards
  pub own_alone : (k : ℕ) → k ≤ 1 → (t u : Table) → is_table t.rows t.used ≡ true → is_table u.rows u.used ≡ true → own_of k t ≡ own_of k u → (r : Record)
      → (told t (call k r) ≡ told u (call k r)) × (own_of k (after t (call k r)) ≡ own_of k (after u (call k r)))
  -- W-206: "From an empty table that only these calls write, the rows must equal those worked out afresh from the records not refused.": each rack's
  pub afresh : (k : ℕ) → k ≤ 1 → (rows : List Row) → length rows ≡ 64 → (cs : List Call)
      → own_of k (after_all (empty rows) cs) ≡ runs_of (seconds_of (records_of k (not_refused (empty rows) cs)))
  -- "Rows carry the rack, 0 or 1, and stand in order of arrival.": the openings too are worked out afresh from the records not refused
  pub arrival : (rows : List Row) → length rows ≡ 64 → (cs : List Call) → map opening_of (in_use (after_all (empty rows) cs)) ≡ openings (not_refused (empty rows) cs)
  -- "The table of W-206 is read as the case of rack 0 alone"
  pub rack_zero : (rows : List Row) → length rows ≡ 64 → (rs : List Record)
      → in_use (after_all (empty rows) (of_rack_zero rs)) ≡ map row_of_zero (runs_of (seconds_of (records_of 0 (not_refused (empty rows) (of_rack_zero rs)))))
  -- from an empty table no call is answered 21
  pub possible : (rows : List Row) → length rows ≡ 64 → (cs : List Call) (c : Call) → told (after_all (empty rows) cs) c ≡ Err refusal.BadTable → ⊥
  -- W-206: "all change nothing"
  pub refusals : (rows : List Row) (used k : ℕ) (r : Record) → is_refusal (outcome_of (added_to rows used k r).answer) ≡ true
      → ((added_to rows used k r).rows ≡ rows) × (used_after used (added_to rows used k r).answer ≡ used)
