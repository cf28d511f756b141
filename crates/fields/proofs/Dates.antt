-- What the calendar's answers say of a date.
use Rattle.std.specs.Prelude.{Option, None, Some}
use Rattle.cond.proofs.Kit.{◌≡◌, Bool, refl, true, ℕ}
use Rattle.cond.specs.Pick.{pick}
use Rattle.calendar.specs.Answers.{day_value}
use Rattle.calendar.specs.Calendar.{day_of_year, is_date}
use Rattle.record.specs.declared.Date.{Date}
use Rattle.record.specs.declared.Date.TheVariants as DateIs
use Rattle.record.specs.Record.{date_in_range}
use Rattle.forms.specs.Fields.Date.{encode_ordinal}
use Rattle.fields.specs.Dates.{ordinal_of}

-- a date that exists has its number
pub number_of : (b : Bool) (n : ℕ) → b ≡ true → day_value (pick b (Some n) None) ≡ n
number_of b n e = simp e

-- and so has a date in range
pub ordinal_in_range : (d : Option Date) → date_in_range d ≡ true → ordinal_of d ≡ encode_ordinal d
unfolding date_in_range
ordinal_in_range None i = refl
ordinal_in_range (Some (DateIs.Full y m d)) i = number_of (is_date y m d) (day_of_year y m d) i
ordinal_in_range (Some (DateIs.DayOfYear n)) i = refl
