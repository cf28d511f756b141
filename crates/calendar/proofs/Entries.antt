-- What lies between two entries of the table: the months from the one to the other.
use Rattle.cond.proofs.Kit.{◌+◌, ◌-◌, ◌<◌, ◌≡◌, ◌≤◌, arith, true, ℕ}
use Rattle.calendar.specs.Calendar.{day_of_year, days_through, first_of, is_date, month_length}
use Rattle.calendar.specs.Entries.{day_by_table, DayByTable, MonthsBetween}
use Rattle.calendar.proofs.Count.{months_through}
use Rattle.calendar.proofs.Months.{through_month}
use Rattle.calendar.proofs.Ranges.{date_range, month_range, ordinal_range}

-- the entry behind m months of a year is later than that of January by these
pub through_entry : (y m : ℕ) → y < 100 → m ≤ 12 → first_of y (m + 1) ≡ first_of y 1 + days_through y m
unfolding days_through
through_entry y m h l =
    let s : m + 1 - 1 ≡ m = omega arith in
    rw s (omega (arith, months_through y m h l, months_through y 0 h (omega arith)))

pub from_january : (y m : ℕ) → y < 100 → (1 ≤ m) × (m ≤ 12) → first_of y m ≡ first_of y 1 + days_through y (m - 1)
from_january y m h l =
    let s : m - 1 + 1 ≡ m = omega arith in
    rw s at (through_entry y (m - 1) h (omega arith))

-- the next entry is later by the month
pub next_entry : (y m : ℕ) → (y < 100) × ((1 ≤ m) × (m ≤ 12)) → first_of y (m + 1) ≡ first_of y m + month_length y m
next_entry y m h = omega (arith, through_entry y m h.0 h.1.1, from_january y m h.0 h.1, through_month y m h.1.0)

pub months_between : MonthsBetween
months_between y m h = omega (arith, next_entry y m (month_range y m h))

pub day_by_table_lem : DayByTable
day_by_table_lem y m d h =
    let c = date_range y m d h in
    omega (arith, from_january y m c.years c.months)

pub day_by_table_le : (y m d : ℕ) → is_date y m d ≡ true → day_by_table y m d ≤ 366
unfolding day_of_year
day_by_table_le y m d h = omega (arith, day_by_table_lem y m d h, ordinal_range y m d (date_range y m d h))

-- what the difference of two entries needs
pub ruleset between = (from_january, day_by_table_lem, day_by_table_le)
