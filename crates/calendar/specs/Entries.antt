-- W-202: what is counted in the table of the months' firsts.
use Rattle.std.specs.Prelude.{true, ◌≡◌, ℕ, ◌+◌, ◌-◌}
use Rattle.calendar.specs.Calendar.{days_through, first_of, is_date, is_month, month_length}

-- "the months counted in the table only": a month is what lies between its entry and the next
abbrev pub MonthsBetween : Type 0
MonthsBetween = (y m : ℕ) → is_month y m ≡ true → first_of y (m + 1) - first_of y m ≡ month_length y m

-- "a difference of two table entries, plus the day"
abbrev pub day_by_table : ℕ → ℕ → ℕ → ℕ
day_by_table y m d = first_of y m - first_of y 1 + d

-- "this is the day plus the lengths of the months before it in its year"
abbrev pub DayByTable : Type 0
DayByTable = (y m d : ℕ) → is_date y m d ≡ true → day_by_table y m d ≡ d + days_through y (m - 1)
