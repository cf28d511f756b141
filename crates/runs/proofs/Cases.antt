-- The tabled cases, by computation.
use Rattle.cond.proofs.Kit.{refl}
use Rattle.calendar.specs.Calendar.{day_number, first_day, is_date, is_leap, is_month, length_at, month_days, month_length}
use Rattle.record.specs.Record.{time_in_range}
use Rattle.runs.specs.Cases.{Cases}
use Rattle.runs.specs.Seconds.{in_minute, is_next, is_second, minute_of, over_minute, same_minute}

pub cases : Cases
unfolding day_number first_day is_date is_leap is_month length_at month_days month_length time_in_range in_minute is_next is_second minute_of over_minute same_minute
cases = record { next = refl }
