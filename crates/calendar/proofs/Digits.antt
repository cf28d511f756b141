-- The laws of a year's two digits: one test decides the century.
use Rattle.cond.proofs.Kit.{◌%◌, ◌+◌, ◌<◌, ◌≡◌, ◌≤◌, arith, le-leb, leb, leb-false, leb-true, lt-leb, ℕ}
use Rattle.cond.proofs.Tests.{either_way}
use Rattle.calendar.specs.Calendar.{year_of}

pub from_80 : (y : ℕ) → 80 ≤ y → year_of y ≡ 1900 + y
from_80 y h = rw (le-leb 80 y h)

pub below_80 : (y : ℕ) → y < 80 → year_of y ≡ 2000 + y
below_80 y h = rw (lt-leb 80 y h)

pub digits : (y : ℕ) → y < 100 → (1980 ≤ year_of y) × (year_of y ≤ 2079) × (year_of y % 100 ≡ y)
digits y h =
    either_way (leb 80 y)
    (λ e. let l = leb-true 80 y e in omega (arith, from_80 y l))
    (λ e. let l = leb-false 80 y e in omega (arith, below_80 y l))

pub named : (n : ℕ) → 1980 ≤ n → n ≤ 2079 → year_of (n % 100) ≡ n
named n h l = omega (arith, digits (n % 100) (omega arith))
