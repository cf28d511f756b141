-- What the places of a layout can tell.
use Rattle.std.specs.Prelude.{Bool, false, ◌||◌, List, [], ◌∷◌, ℕ, eqb}

-- what a place can tell; `zone` is utc and summer in one letter, `notice` change and leap in one, `quality` the frame's TFOM; `minus` is 1
-- for an offset below zero, `plus` for one above; `latitudeWhole` is degrees with a minute and its hundredth behind them, `latitudeDegrees` with
-- ten-thousandths of a degree
pub data Slot : Type 0 where
  hour minute second : Slot
  weekday leap_second deletion day_seconds : Slot
  year month day ordinal : Slot
  thousandth ten_millionth hundredth : Slot
  channel : Slot
  sync quality fix zone utc summer notice change leap dsp lsp : Slot
  minus plus offset_hours offset_minutes half_hour : Slot
  south latitude_degrees latitude_part latitude_whole latitude_minute latitude_hundredth : Slot
  west longitude_degrees longitude_part longitude_whole longitude_minute longitude_hundredth altitude : Slot
  checksum : Slot

-- the number of a slot, to tell slots apart
abbrev pub slot_number : Slot → ℕ
slot_number hour = 0
slot_number minute = 1
slot_number second = 2
slot_number weekday = 3
slot_number leap_second = 4
slot_number deletion = 5
slot_number day_seconds = 6
slot_number year = 7
slot_number month = 8
slot_number day = 9
slot_number ordinal = 10
slot_number thousandth = 11
slot_number ten_millionth = 12
slot_number hundredth = 13
slot_number channel = 14
slot_number sync = 15
slot_number quality = 16
slot_number fix = 17
slot_number zone = 18
slot_number utc = 19
slot_number summer = 20
slot_number notice = 21
slot_number change = 22
slot_number leap = 23
slot_number dsp = 24
slot_number lsp = 25
slot_number minus = 26
slot_number plus = 27
slot_number offset_hours = 28
slot_number offset_minutes = 29
slot_number half_hour = 30
slot_number south = 31
slot_number latitude_degrees = 32
slot_number latitude_part = 33
slot_number latitude_whole = 34
slot_number latitude_minute = 35
slot_number latitude_hundredth = 36
slot_number west = 37
slot_number longitude_degrees = 38
slot_number longitude_part = 39
slot_number longitude_whole = 40
slot_number longitude_minute = 41
slot_number longitude_hundredth = 42
slot_number altitude = 43
slot_number checksum = 44

-- two slots are the same
abbrev pub same : Slot → Slot → Bool
same f g = eqb (slot_number f) (slot_number g)

-- the slot is in the list
abbrev pub among : Slot → List Slot → Bool
among f [] = false
among f (g ∷ gs) = same f g || among f gs

-- the slots that tell a checksum, and so nothing of the record
abbrev pub of_checksum : List Slot
of_checksum = checksum ∷ []

abbrev pub is_checksum : Slot → Bool
is_checksum f = among f of_checksum

-- what each slot tells; 0 where there is nothing
abbrev pub Values : Type 0
Values = Slot → ℕ
