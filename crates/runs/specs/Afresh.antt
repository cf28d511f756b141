-- "worked out afresh": the maximal runs of a list of seconds, by the list alone.
use Rattle.std.specs.Prelude.{Bool, true, ◌&&◌, not, ◌≡◌, length}
use mathlib.Core.List.{List, [], ◌∷◌, flatten, map}
use Rattle.cond.specs.Pick.{pick}
use Rattle.runs.specs.declared.Run.{Run}
use Rattle.runs.specs.declared.second.Second.{Second}
use Rattle.runs.specs.Seconds.{is_next}

-- a piece of a list: one second or more
pub record Piece : Type 0 where
  pub first : Second
  pub rest : List Second

abbrev pub seconds_in : Piece → List Second
seconds_in p = p.first ∷ p.rest

-- the last second of a list that begins with s
abbrev pub last_from : Second → List Second → Second
last_from s [] = s
last_from s (t ∷ ts) = last_from t ts

-- "its first and last second and its count"
abbrev pub row_of : Piece → Run
row_of p = record { first = p.first; last = last_from p.first p.rest; count = length (seconds_in p) }

-- the list is cut behind each second that is not followed by its next
abbrev pub in_front : Second → List Piece → List Piece
in_front s [] = []
in_front s (p ∷ ps) = record { first = s; rest = seconds_in p } ∷ ps

abbrev pub cut_from : Second → List Second → List Piece
cut_from s [] = record { first = s; rest = [] } ∷ []
cut_from s (t ∷ ts) = pick (is_next s t) (in_front s (cut_from t ts)) (record { first = s; rest = [] } ∷ cut_from t ts)

abbrev pub cut : List Second → List Piece
cut [] = []
cut (s ∷ ss) = cut_from s ss

-- the rows of the runs
abbrev pub runs_of : List Second → List Run
runs_of ss = map row_of (cut ss)

-- each second of a list that begins with s is followed by its next
abbrev pub follow : Second → List Second → Bool
follow s [] = true
follow s (t ∷ ts) = is_next s t && follow t ts

abbrev pub all_follow : List Piece → Bool
all_follow [] = true
all_follow (p ∷ ps) = follow p.first p.rest && all_follow ps

-- no piece is followed by its next second: it could not be longer
abbrev pub apart : List Piece → Bool
apart [] = true
apart (p ∷ []) = true
apart (p ∷ q ∷ ps) = not (is_next (last_from p.first p.rest) q.first) && apart (q ∷ ps)

-- pieces of a list that are its maximal runs
pub record MaximalRuns (ss : List Second) (ps : List Piece) : Type 0 where
  pub whole : flatten (map seconds_in ps) ≡ ss
  pub runs : all_follow ps ≡ true
  pub maximal : apart ps ≡ true
