-- The time, and what follows from it: the leap second's letter, the seconds of the day.
use Rattle.std.specs.Prelude.{Bool, true, false, ℕ, ◌+◌, ◌*◌, eqb}
use Rattle.cond.specs.Pick.{one_if}
use Rattle.forms.specs.Slots.{Values, day_seconds, hour, leap_second, minute, second}

-- "the seconds of the day, hour x 3,600 + minute x 60 + second"
abbrev pub seconds_of_day : ℕ → ℕ → ℕ → ℕ
seconds_of_day h m s = h * 3600 + m * 60 + s

-- "element 61 set": "Element 61 must be 0"
abbrev pub deletion_in_range : ℕ → Bool
deletion_in_range n = eqb n 0

-- what follows from other slots agrees with them, where the layout tells it
abbrev pub follows : Bool → ℕ → ℕ → Bool
follows false n m = true
follows true n m = eqb n m

-- "`L` against second 60"
unfoldable pub leap_consistent : Bool → Values → Bool
leap_consistent k v = follows k (v leap_second) (one_if (eqb (v second) 60))

-- "seconds of the day against the time"
unfoldable pub seconds_consistent : Bool → Values → Bool
seconds_consistent k v = follows k (v day_seconds) (seconds_of_day (v hour) (v minute) (v second))
