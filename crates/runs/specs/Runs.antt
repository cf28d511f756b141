-- W-206: what is worked out afresh, and the calendar's last minute.
use Rattle.std.specs.Prelude.{true, List, ◌≡◌}
use Rattle.runs.specs.declared.second.Second.{Second}
use Rattle.runs.specs.Afresh.{MaximalRuns, Piece, cut}
use Rattle.runs.specs.Seconds.{is_next, last_minute, same_minute}

pub record Runs : Type 0 where
  -- what is "worked out afresh": the maximal runs of the list, of which there is one list only
  pub maximal : (ss : List Second) → MaximalRuns ss (cut ss)
  pub only : (ss : List Second) (ps : List Piece) → MaximalRuns ss ps → ps ≡ cut ss
  -- "No minute follows the calendar's last."
  pub last_minute_lem : (a b : Second) → same_minute a last_minute ≡ true → is_next a b ≡ true → same_minute a b ≡ true
