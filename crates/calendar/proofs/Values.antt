-- The answers in the paper's number and values: a test of the date decides three of them, one of the digits the fourth, and a search that has its laws the last.
use Rattle.cond.proofs.Kit.{◌≡◌, ap, arith, le-ltb, lt-ltb, refl, true, ℕ}
use Rattle.std.proofs.Common.{None, Option, Some}
use Rattle.calendar.specs.declared.MonthDay.{MonthDay}
use Rattle.calendar.specs.Answers.{date_day, date_month, date_of_day, date_refusal, full_year_in, of_date}
use Rattle.calendar.specs.Calendar.{day_number, day_of_year, is_date, weekday_of}
use Rattle.calendar.specs.Values.{OfDate, OfDay, OfDigits, Values}
use Rattle.calendar.proofs.DayOfYear.{day_of, found_day, found_none}

of_date_lem : (y m d n : ℕ) → OfDate y m d (of_date y m d n) n
of_date_lem y m d n = record { there = λ h. rw h (refl, refl); none = λ h. rw h (refl, refl) }

of_day : (y n : ℕ) → OfDay y n (date_of_day y n)
of_day y n =
    record {
      there = λ h. go (date_of_day y n) refl h;
      only = λ m d p e.
          let f = day_of y m d n p e in
          (ap date_refusal f, ap date_month f, ap date_day f);
      none = λ h.
          let f = found_none y n h in
          (ap date_refusal f, ap date_month f, ap date_day f);
    }
  where
    go : (a : Option MonthDay) → date_of_day y n ≡ a → date_refusal a ≡ 0 → (is_date y (date_month a) (date_day a) ≡ true) × (day_of_year y (date_month a) (date_day a) ≡ n)
    go (Some d) e h = found_day y n d.month d.day e
    go None e h = absurd (omega arith)

of_digits : (y : ℕ) → OfDigits y (full_year_in y)
of_digits y = record { there = λ h. rw (lt-ltb y 100 h) (refl, refl); none = λ h. rw (le-ltb y 100 h) (refl, refl) }

pub day_values : Values
day_values =
    record {
      day_numbers = λ y m d. of_date_lem y m d (day_number y m d);
      weekdays = λ y m d. of_date_lem y m d (weekday_of y m d);
      days_of_year = λ y m d. of_date_lem y m d (day_of_year y m d);
      full_years = of_digits;
      dates = of_day;
    }
