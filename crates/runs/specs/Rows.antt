-- W-206: a run as a row of a table.
use Rattle.std.specs.Prelude.{Bool, ◌&&◌, ℕ, ◌+◌, leb, ltb}
use Rattle.runs.specs.declared.Run.{Run}
use Rattle.runs.specs.declared.second.Second.{Second}
use Rattle.runs.specs.Seconds.{is_next, is_second}

-- "rows .. each with its first and last second and its count": the row of one second, and a row with its next second
abbrev pub single : Second → Run
single s = record { first = s; last = s; count = 1 }

abbrev pub longer : Run → Second → Run
longer n s = record { first = n.first; last = s; count = n.count + 1 }

-- "the newest row's last second is impossible or its count over 4,000,000,000" where this is false
unfoldable pub is_row : Run → Bool
is_row n = is_second n.last && leb n.count 4000000000

-- "joins the newest run if it is the next second": the newest of so many
unfoldable pub joins : Run → ℕ → Second → Bool
joins newest rows s = ltb 0 rows && is_next newest.last s
