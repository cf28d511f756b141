-- What the calendar's answers say in the paper's number and values: "a definition gives this paper's number and values for each of the
-- enum's cases. The promises use this definition."
use Rattle.std.specs.Prelude.{true, false, ◌≡◌, ℕ, ◌≤◌, ◌<◌, Option}
use Rattle.calendar.specs.declared.MonthDay.{MonthDay}
use Rattle.calendar.specs.Answers.{date_day, date_month, date_of_day, date_refusal, day_number_in, day_of_year_in, day_refusal, day_value, full_year_in, weekday_in}
use Rattle.calendar.specs.Calendar.{day_number, day_of_year, is_date, weekday_of, year_of}

-- the answer is the number of a date, and 4 with the number 0 where there is no such date
pub record OfDate (y m d : ℕ) (answer : Option ℕ) (n : ℕ) : Type 0 where
  pub there : is_date y m d ≡ true → (day_refusal answer ≡ 0) × (day_value answer ≡ n)
  pub none : is_date y m d ≡ false → (day_refusal answer ≡ 4) × (day_value answer ≡ 0)

-- the answer is the date of day n of the year yy, and 4 with month and day 0 where no date has this day
pub record OfDay (y n : ℕ) (answer : Option MonthDay) : Type 0 where
  pub there : date_refusal answer ≡ 0 → (is_date y (date_month answer) (date_day answer) ≡ true) × (day_of_year y (date_month answer) (date_day answer) ≡ n)
  pub only : (m d : ℕ) → is_date y m d ≡ true → day_of_year y m d ≡ n → (date_refusal answer ≡ 0) × (date_month answer ≡ m) × (date_day answer ≡ d)
  pub none :
      ((m d : ℕ) → is_date y m d ≡ true → day_of_year y m d ≡ n → ⊥) → (date_refusal answer ≡ 4) × (date_month answer ≡ 0) × (date_day answer ≡ 0)

-- the answer is the year that two digits name, and 4 with the year 0 for any other number
pub record OfDigits (y : ℕ) (answer : Option ℕ) : Type 0 where
  pub there : y < 100 → (day_refusal answer ≡ 0) × (day_value answer ≡ year_of y)
  pub none : 100 ≤ y → (day_refusal answer ≡ 4) × (day_value answer ≡ 0)

-- the five answers of the calendar, for all numbers
pub record Values : Type 0 where
  pub day_numbers : (y m d : ℕ) → OfDate y m d (day_number_in y m d) (day_number y m d)
  pub weekdays : (y m d : ℕ) → OfDate y m d (weekday_in y m d) (weekday_of y m d)
  pub days_of_year : (y m d : ℕ) → OfDate y m d (day_of_year_in y m d) (day_of_year y m d)
  pub full_years : (y : ℕ) → OfDigits y (full_year_in y)
  pub dates : (y n : ℕ) → OfDay y n (date_of_day y n)
