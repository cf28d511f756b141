-- "The record": which values are in range, and which records are bad.
use Rattle.std.specs.Prelude.{Bool, true, false, ◌&&◌, not, ℕ, leb, ltb, nat_abs, Option, None, Some, unwrap_or, ℤ}
use Rattle.calendar.specs.Calendar.{is_date}
use Rattle.record.specs.declared.Date.{Date}
use Rattle.record.specs.declared.Date.TheVariants as DateIs
use Rattle.record.specs.declared.Fraction.{Fraction}
use Rattle.record.specs.declared.Fraction.TheVariants as FractionIs
use Rattle.record.specs.declared.Position.{Position}
use Rattle.record.specs.declared.Position.TheVariants as PositionIs
use Rattle.record.specs.declared.Record.{Record}

-- "hour 0..23, minute 0..59, second 0..60"
unfoldable pub time_in_range : ℕ → ℕ → ℕ → Bool
time_in_range h m s = ltb h 24 && (ltb m 60 && leb s 60)

-- "a full date or a day of year alone, 1..366"
unfoldable pub date_in_range : Option Date → Bool
date_in_range None = true
date_in_range (Some (DateIs.Full y m d)) = is_date y m d
date_in_range (Some (DateIs.DayOfYear n)) = leb 1 n && leb n 366

-- "thousandths 0..999, or ten-millionths 0..9,999,999"; W-204 "fraction may be hundredths"
unfoldable pub fraction_in_range : Option Fraction → Bool
fraction_in_range None = true
fraction_in_range (Some (FractionIs.Thousandths n)) = ltb n 1000
fraction_in_range (Some (FractionIs.TenMillionths n)) = ltb n 10000000
fraction_in_range (Some (FractionIs.Hundredths n)) = ltb n 100

-- "channel 0 or 1"
unfoldable pub channel_in_range : Option ℕ → Bool
channel_in_range None = true
channel_in_range (Some n) = leb n 1

-- "minutes of local time minus UTC, -840..840"
unfoldable pub offset_in_range : Option ℤ → Bool
offset_in_range None = true
offset_in_range (Some z) = leb (nat_abs z) 840

-- "latitude -900,000..900,000 and longitude -1,800,000..1,800,000 .. altitude 0..9,999 m"; W-204 "in hundredths of a minute without altitude
-- (latitude -540,000..540,000, longitude -1,080,000..1,080,000)"
unfoldable pub position_in_range : Option Position → Bool
position_in_range None = true
position_in_range (Some (PositionIs.Degrees lat lon alt)) = leb (nat_abs lat) 900000 && (leb (nat_abs lon) 1800000 && leb alt 9999)
position_in_range (Some (PositionIs.Minutes lat lon)) = leb (nat_abs lat) 540000 && leb (nat_abs lon) 1080000

-- the time and the date are in range, and the day exists in its month
abbrev pub date_time_in_range : Record → Bool
date_time_in_range r = time_in_range r.hour r.minute r.second && date_in_range r.date

-- so are the other numbers
abbrev pub rest_in_range : Record → Bool
rest_in_range r = fraction_in_range r.fraction && (channel_in_range r.channel && (offset_in_range r.offset && position_in_range r.position))

-- every value of the record is in its range
unfoldable pub in_range : Record → Bool
in_range r = date_time_in_range r && rest_in_range r

-- the field is there and yes
abbrev pub is_yes : Option Bool → Bool
is_yes flag = unwrap_or flag false

-- "utc and summer are both yes" where this is false
unfoldable pub zone_agrees : Record → Bool
zone_agrees r = not (is_yes r.utc && is_yes r.summer)

-- "A record is bad if a value is outside these ranges, the day does not exist in its month, or utc and summer are both
-- yes."
unfoldable pub is_good : Record → Bool
is_good r = in_range r && zone_agrees r

-- "The empty record has time 00:00:00 and all else absent."
abbrev pub empty_record : Record
empty_record =
    record {
      hour = 0;
      minute = 0;
      second = 0;
      date = None;
      fraction = None;
      channel = None;
      sync = None;
      fix = None;
      utc = None;
      summer = None;
      change = None;
      leap = None;
      offset = None;
      position = None;
      dsp = None;
      lsp = None;
    }
