-- W-205: the years that two digits name, and the weekdays of their firsts.
use Rattle.std.specs.Prelude.{◌≡◌, ℕ, suc, ◌%◌, ◌≤◌, ◌<◌}
use Rattle.calendar.specs.Calendar.{day_number, weekday_of, year_of}

pub record Years : Type 0 where
  -- two digits name a year of 1980 to 2079 that ends in them
  pub digits : (y : ℕ) → y < 100 → (1980 ≤ year_of y) × (year_of y ≤ 2079) × (year_of y % 100 ≡ y)
  -- and every such year is named by its last two
  pub named : (n : ℕ) → 1980 ≤ n → n ≤ 2079 → year_of (n % 100) ≡ n
  -- "1 January 1980 was a Tuesday."
  pub tuesday : weekday_of 80 1 1 ≡ 2
  -- document 01: "1 January 2000 was a Saturday."
  pub saturday : weekday_of 0 1 1 ≡ 6
  -- the count goes on from each year to the next, also from 99 to 00
  pub goes_on : (y z : ℕ) → y < 100 → z < 100 → year_of z ≡ suc (year_of y) → day_number z 1 1 ≡ suc (day_number y 12 31)
