-- Inner: the rows of one rack as they are found in a table.
use Rattle.std.specs.Prelude.{◌≡◌, ◌≤◌, false, length, List, true, ℕ}
use Rattle.record.specs.declared.Record.{Record}
use Rattle.record.specs.declared.refusal.Refusal.{Refusal}
use Rattle.runs.specs.declared.Run.{Run}
use Rattle.racks.specs.declared.Row.{Row}
use Rattle.racks.specs.declared.rack_rows.RackRows.{RackRows}
use Rattle.racks.specs.Rows.{added_to, is_table, newest, newest_at, others, own, unchanged}

-- of the first rows of a table
abbrev pub seen_of : ℕ → List Row → ℕ → RackRows
seen_of k rows used = record { count = length (own k rows used); newest = newest_at k rows used }

-- the rows of rack 0 and those of rack 1, where each row in use is of one of them
pub record BothRacks (rows : List Row) (used : ℕ) (zero one : RackRows) : Type 0 where
  pub only : others rows used ≡ false
  pub zero_is : zero ≡ seen_of 0 rows used
  pub one_is : one ≡ seen_of 1 rows used

-- the rows of a rack in a table that is not refused, and the newest run
pub record OwnRows (rows : List Row) (used k : ℕ) (o : RackRows) (run : Run) : Type 0 where
  pub rack : k ≤ 1
  pub table : is_table rows used ≡ true
  pub is : o ≡ seen_of k rows used
  pub run_is : run ≡ newest k rows used

-- why there are none, and that it is what a record of this rack is told
abbrev pub Refuses : List Row → ℕ → ℕ → Refusal → Type 0
Refuses rows used k x = (r : Record) → added_to rows used k r ≡ unchanged x rows
