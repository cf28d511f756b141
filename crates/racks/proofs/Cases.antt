-- The tabled cases, by computation.
use Rattle.cond.proofs.Kit.{refl}
use Rattle.calendar.specs.Calendar.{day_number, first_day, is_date, is_leap, is_month, length_at, month_days, month_length}
use Rattle.record.specs.Record.{channel_in_range, date_in_range, fraction_in_range, in_range, is_good, offset_in_range, position_in_range, time_in_range, zone_agrees}
use Rattle.runs.specs.Heard.{second_in}
use Rattle.runs.specs.Rows.{is_row, joins}
use Rattle.runs.specs.Seconds.{in_minute, is_next, is_second, minute_of, over_minute, same_minute}
use Rattle.racks.specs.Cases.{Cases}
use Rattle.racks.specs.Rows.{added_to, is_rack, is_table, with_second}

pub cases : Cases
unfolding day_number first_day is_date is_leap is_month length_at month_days month_length channel_in_range date_in_range fraction_in_range in_range is_good offset_in_range position_in_range time_in_range zone_agrees second_in is_row joins in_minute is_next is_second minute_of over_minute same_minute added_to is_rack is_table with_second
cases = record { numbers = refl; rows = refl; rack_full = refl }
