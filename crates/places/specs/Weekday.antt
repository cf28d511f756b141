-- Inner: the weekday of a record's date.
use Rattle.std.specs.Prelude.{Bool, ◌&&◌, ℕ, eqb, Option}
use Rattle.calendar.specs.Answers.{day_value, weekday_in}
use Rattle.calendar.specs.Calendar.{is_date, weekday_of}
use Rattle.record.specs.declared.Date.{Date}
use Rattle.forms.specs.Fields.Date.{encode_day, encode_month, encode_year}

-- the full date exists
abbrev pub exists : Option Date → Bool
exists d = is_date (encode_year d) (encode_month d) (encode_day d)

-- 1 Monday to 7 Sunday
abbrev pub encode_weekday : Option Date → ℕ
encode_weekday d = weekday_of (encode_year d) (encode_month d) (encode_day d)

-- the same on all dates, 0 where there is no such date
abbrev pub weekday_on : Option Date → ℕ
weekday_on d = day_value (weekday_in (encode_year d) (encode_month d) (encode_day d))

-- the full date exists and falls on this weekday
abbrev pub falls_on : Option Date → ℕ → Bool
falls_on d n = exists d && eqb n (encode_weekday d)
