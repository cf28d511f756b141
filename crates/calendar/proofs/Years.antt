-- The two firsts are computed by the table's rule; the rest is what was shown of the digits and of the count.
use Rattle.cond.proofs.Kit.{refl}
use Rattle.calendar.specs.Calendar.{day_number, first_day, is_leap, length_at, month_days, weekday_of}
use Rattle.calendar.specs.Years.{Years}
use Rattle.calendar.proofs.Count.{year_follows}
use Rattle.calendar.proofs.Digits.{digits, named}

pub years : Years
unfolding day_number first_day is_leap length_at month_days weekday_of
years = record { digits = digits; named = named; tuesday = refl; saturday = refl; goes_on = year_follows }
