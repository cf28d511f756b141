-- The date: "a full date (yy 00..99 .., month, day) or a day of year alone, 1..366". Which year yy means is the calendar's.
use Rattle.std.specs.Prelude.{Bool, true, false, ◌&&◌, List, [], ◌∷◌, ℕ, leb, Option, None, Some}
use Prim.Native.String.{String}
use Rattle.cond.specs.Pick.{pick}
use Rattle.calendar.specs.Answers.{date_of_day}
use Rattle.calendar.specs.Calendar.{day_of_year, weekday_of}
use Rattle.calendar.specs.declared.MonthDay.{MonthDay}
use Rattle.record.specs.declared.Date.{Date}
use Rattle.record.specs.declared.Date.TheVariants as DateIs
use Rattle.forms.specs.Fields.Time.{follows}
use Rattle.forms.specs.Places.{Layout, has}
use Rattle.forms.specs.Slots.{Slot, Values, day, month, ordinal, weekday, year}

-- "a full date or a day of year alone", or none; the frame tells a full date by its year and the day of it
pub data DateKind : Type 0 where
  no_date full_date year_and_day ordinal_date : DateKind

-- the kind that a layout tells
abbrev pub date_kind : Layout → DateKind
date_kind ps = pick (has ps month) full_date (pick (has ps year) year_and_day (pick (has ps ordinal) ordinal_date no_date))

-- the slots that tell a date of the kind
abbrev pub date_slots : DateKind → List Slot
date_slots no_date = []
date_slots full_date = year ∷ month ∷ day ∷ []
date_slots year_and_day = year ∷ ordinal ∷ []
date_slots ordinal_date = ordinal ∷ []

-- a full date; where the year has no such day, month and day 0, which no date has
abbrev pub date_on : ℕ → Option MonthDay → Option Date
date_on y (Some d) = Some (DateIs.Full y d.month d.day)
date_on y None = Some (DateIs.Full y 0 0)

unfoldable pub decode_date : DateKind → Values → Option Date
decode_date no_date v = None
decode_date full_date v = Some (DateIs.Full (v year) (v month) (v day))
decode_date year_and_day v = date_on (v year) (date_of_day (v year) (v ordinal))
decode_date ordinal_date v = Some (DateIs.DayOfYear (v ordinal))

-- what a date tells, 0 where it is absent or of another kind

abbrev pub encode_year : Option Date → ℕ
encode_year None = 0
encode_year (Some (DateIs.Full y m d)) = y
encode_year (Some (DateIs.DayOfYear n)) = 0

abbrev pub encode_month : Option Date → ℕ
encode_month None = 0
encode_month (Some (DateIs.Full y m d)) = m
encode_month (Some (DateIs.DayOfYear n)) = 0

abbrev pub encode_day : Option Date → ℕ
encode_day None = 0
encode_day (Some (DateIs.Full y m d)) = d
encode_day (Some (DateIs.DayOfYear n)) = 0

-- "The writer of form 6 derives ddd from a full date."
abbrev pub encode_ordinal : Option Date → ℕ
encode_ordinal None = 0
encode_ordinal (Some (DateIs.Full y m d)) = day_of_year y m d
encode_ordinal (Some (DateIs.DayOfYear n)) = n

-- "a carried field is absent or of the other kind (.. a full date serves form 6)" where this is false
abbrev pub has_date : DateKind → Option Date → Bool
has_date no_date d = true
has_date full_date None = false
has_date full_date (Some (DateIs.Full y m d)) = true
has_date full_date (Some (DateIs.DayOfYear n)) = false
has_date year_and_day None = false
has_date year_and_day (Some (DateIs.Full y m d)) = true
has_date year_and_day (Some (DateIs.DayOfYear n)) = false
has_date ordinal_date None = false
has_date ordinal_date (Some (DateIs.Full y m d)) = true
has_date ordinal_date (Some (DateIs.DayOfYear n)) = true

-- absent where it is not carried; "of a full date, a SYSPLEX string keeps the day of year"
unfoldable pub carried_date : DateKind → Option Date → Option Date
carried_date no_date d = None
carried_date full_date d = d
carried_date year_and_day d = d
carried_date ordinal_date None = None
carried_date ordinal_date (Some (DateIs.Full y m d)) = Some (DateIs.DayOfYear (day_of_year y m d))
carried_date ordinal_date (Some (DateIs.DayOfYear n)) = Some (DateIs.DayOfYear n)

-- which variant of the block's line it takes
abbrev pub date_choice : Option Date → ℕ
date_choice None = 0
date_choice (Some (DateIs.Full y m d)) = 1
date_choice (Some (DateIs.DayOfYear n)) = 2

-- the table's word
abbrev pub date_word : DateKind → List String
date_word no_date = []
date_word full_date = "full date" ∷ []
date_word year_and_day = "full date" ∷ []
date_word ordinal_date = "day of year" ∷ []

-- "weekday outside 1..7"
unfoldable pub weekday_in_range : Bool → ℕ → Bool
weekday_in_range false n = true
weekday_in_range true n = leb 1 n && leb n 7

-- "weekday against date"
unfoldable pub weekday_consistent : Bool → Values → Bool
weekday_consistent k v = follows k (v weekday) (weekday_of (v year) (v month) (v day))
