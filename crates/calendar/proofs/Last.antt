-- 31 December 2079 is the calendar's last day.
use Rattle.cond.proofs.Kit.{◌*◌, ◌+◌, ◌-◌, ◌≡◌, ◌≤◌, add-suc, add-zero, ap, arith, suc, true, zero, ℕ}
use Rattle.calendar.specs.Calendar.{day_number, days_through, first_day, is_date, row_of}
use Rattle.calendar.proofs.Count.{next_january, number_in_year}
use Rattle.calendar.proofs.Digits.{digits}
use Rattle.calendar.proofs.Months.{december, through_le, through_month}
use Rattle.calendar.proofs.Ranges.{DateRange, date_range}

later_first : (k n : ℕ) → first_day k ≤ first_day (k + n)
unfolding first_day
later_first k zero = rw add-zero (omega arith)
later_first k (suc n) = rw add-suc (omega (arith, later_first k n))

last_by : (y m d : ℕ) → DateRange y m d → day_number y m d ≤ day_number 79 12 31
last_by y zero d c = absurd (omega arith)
last_by y (suc m) d c =
    let g = digits y c.years in
    let before : days_through y (suc m - 1) ≡ days_through y m = ap (days_through y) (omega arith) in
    let sums : suc (row_of y) * 12 + (1200 - suc (row_of y) * 12) ≡ 1200 = omega arith in
    omega (
      arith,
      number_in_year y m d c.years (omega arith),
      through_month y (suc m) (omega arith),
      through_le y (suc m) 12 c.months.1,
      next_january y c.years,
      later_first (suc (row_of y) * 12) (1200 - suc (row_of y) * 12),
      ap first_day sums,
      next_january 79 (omega arith),
      number_in_year 79 11 31 (omega arith) (omega arith),
      through_month 79 12 (omega arith),
      december 79 (omega arith),
    )

pub number_last : (y m d : ℕ) → is_date y m d ≡ true → day_number y m d ≤ day_number 79 12 31
number_last y m d h = last_by y m d (date_range y m d h)
