-- How many numbers each slot has: for a good record, and for the places that tell it.
use Rattle.cond.proofs.Kit.{[], ◌∷◌, get_or, List, ℕ}
use Rattle.forms.specs.Slots.{Slot, slot_number}

-- a good record tells less than the bound, and a layout may spell so many numbers at most
pub record Limit : Type 0 where
  pub bound : ℕ
  pub most : ℕ

-- a number that is tested again when it was read
abbrev loose : ℕ → Limit
loose n = record { bound = n; most = 10000000 }

-- a number whose places spell no other
abbrev exact : ℕ → Limit
exact n = record { bound = n; most = n }

-- a number of which the greatest has no word
abbrev wordless : ℕ → ℕ → Limit
wordless n m = record { bound = n; most = m }

-- in the order of the slots' numbers; the checksum is told by its form
abbrev limits : List Limit
limits =
    -- hour, minute, second
    loose 24 ∷ loose 60 ∷ loose 61
    -- weekday, leapSecond, deletion, daySeconds
    ∷ loose 8 ∷ exact 2 ∷ loose 1 ∷ loose 86401
    -- year, month, day, ordinal
    ∷ loose 100 ∷ loose 13 ∷ loose 32 ∷ loose 367
    -- thousandth, tenMillionth, hundredth; channel
    ∷ loose 1000 ∷ loose 10000000 ∷ loose 100 ∷ loose 2
    -- sync, quality, fix, zone, utc, summer, notice, change, leap, dsp, lsp
    ∷ exact 2 ∷ loose 16 ∷ exact 2 ∷ exact 3 ∷ exact 2 ∷ exact 2 ∷ wordless 4 3 ∷ exact 2 ∷ exact 2 ∷ exact 2 ∷ exact 2
    -- minus, plus, offsetHours, offsetMinutes, halfHour
    ∷ exact 2 ∷ exact 2 ∷ loose 15 ∷ loose 60 ∷ wordless 3 2
    -- south, latitudeDegrees, latitudePart, latitudeWhole, latitudeMinute, latitudeHundredth
    ∷ exact 2 ∷ loose 91 ∷ exact 10000 ∷ loose 91 ∷ loose 60 ∷ exact 100
    -- west, longitudeDegrees, longitudePart, longitudeWhole, longitudeMinute, longitudeHundredth, altitude
    ∷ exact 2 ∷ loose 181 ∷ exact 10000 ∷ loose 181 ∷ loose 60 ∷ exact 100 ∷ loose 10000
    -- sum
    ∷ loose 1 ∷ []

unfoldable pub bound : Slot → ℕ
bound f = (get_or limits (slot_number f) (loose 0)).bound

unfoldable pub most : Slot → ℕ
most f = (get_or limits (slot_number f) (loose 0)).most
