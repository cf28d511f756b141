-- Inner: what the calendar's answers tell of a date, on all dates.
use Rattle.std.specs.Prelude.{ℕ, Option, None, Some}
use Rattle.calendar.specs.Answers.{day_of_year_in, day_value}
use Rattle.record.specs.declared.Date.{Date}
use Rattle.record.specs.declared.Date.TheVariants as DateIs

-- the day of the year of a date, 0 where it is absent or does not exist
abbrev pub ordinal_of : Option Date → ℕ
ordinal_of None = 0
ordinal_of (Some (DateIs.Full y m d)) = day_value (day_of_year_in y m d)
ordinal_of (Some (DateIs.DayOfYear n)) = n
