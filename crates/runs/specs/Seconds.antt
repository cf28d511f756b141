-- A second of the calendar, and which second is the next.
use Rattle.std.specs.Prelude.{Bool, ◌&&◌, ◌||◌, ℕ, ◌+◌, ◌*◌, leb, eqb}
use Rattle.calendar.specs.Calendar.{day_number, is_date}
use Rattle.record.specs.Record.{time_in_range}
use Rattle.runs.specs.declared.second.Second.{Second}

-- a "last second is impossible" where this is false: the time is in its range, and the calendar has the date
unfoldable pub is_second : Second → Bool
is_second s = time_in_range s.hour s.minute s.second && is_date s.yy s.month s.day

-- both stand in one minute
unfoldable pub same_minute : Second → Second → Bool
same_minute a b = (eqb a.minute b.minute && eqb a.hour b.hour) && (eqb a.day b.day && (eqb a.month b.month && eqb a.yy b.yy))

-- b is one second on in the minute of a; "59 is followed by 60"
unfoldable pub in_minute : Second → Second → Bool
in_minute a b = same_minute a b && eqb b.second (a.second + 1)

-- the minutes from the calendar's first to this one
unfoldable pub minute_of : Second → ℕ
minute_of s = day_number s.yy s.month s.day * 1440 + (s.hour * 60 + s.minute)

-- "59 is followed .. by the next minute, 60 by the next minute"
unfoldable pub over_minute : Second → Second → Bool
over_minute a b = (leb 59 a.second && eqb b.second 0) && eqb (minute_of b) (minute_of a + 1)

-- "the next second"; "No minute follows the calendar's last", since no second of the calendar has its number
unfoldable pub is_next : Second → Second → Bool
is_next a b = (is_second a && is_second b) && (in_minute a b || over_minute a b)

-- "the calendar's last" minute, by its first second: 31 December 2079, 23:59
abbrev pub last_minute : Second
last_minute = record { yy = 79; month = 12; day = 31; hour = 23; minute = 59; second = 0 }
