-- Inner: what the reader of a line finds at the head of the bytes: the line's size, and what is told with it.
use Rattle.std.specs.Prelude.{Bool, false, ◌&&◌, ◌||◌, List, [], ◌∷◌, ℕ, ◌+◌, take, drop, Option, None, Some}
use Rattle.cond.specs.Pick.{pick}
use Rattle.spelling.specs.Bytes.{letters, same_bytes}
use Rattle.spelling.specs.Spelling.{digits, is_spelled, words}
use Rattle.forms.specs.Block.{Line, variant_at}
use Rattle.forms.specs.Carries.{carries_of}
use Rattle.forms.specs.Fields.Offset.{offset_consistent}
use Rattle.forms.specs.Fields.Position.{arc_in_range, position_consistent}
use Rattle.forms.specs.Places.{Layout, fixed, has, part, layout_width, shape, values}
use Rattle.forms.specs.Slots.{Slot, Values, altitude, change, channel, day, dsp, fix, half_hour, hour, hundredth, latitude_degrees, latitude_hundredth, latitude_minute}
use Rattle.forms.specs.Slots.{latitude_part, latitude_whole, leap, longitude_degrees, longitude_hundredth, longitude_minute, longitude_part, longitude_whole, lsp, minus, minute}
use Rattle.forms.specs.Slots.{month, notice, offset_hours, offset_minutes, ordinal, plus, quality, second, south, summer, sync, ten_millionth, thousandth, utc, west, year, zone}
use Rattle.forms.specs.Decode.{decode}
use Rattle.places.specs.Places.{arc_at}
use Rattle.block_lines.specs.declared.state.State.{State}

-- what a layout tells where its slots tell v: the record, the offset's minutes alone, that no minus stands on a zero, and that the position's
-- minutes are in range
unfoldable pub decoded : Layout → Values → State
decoded ps v =
    record {
      known = decode (carries_of ps) v;
      minutes = v offset_minutes;
      zone = offset_consistent (carries_of ps).offset v;
      place = position_consistent (carries_of ps).position v;
      arc = arc_in_range v;
    }

-- the slots that tell a field

abbrev pub time_slots : List Slot
time_slots = hour ∷ minute ∷ second ∷ []

abbrev pub date_slots : List Slot
date_slots = year ∷ month ∷ day ∷ ordinal ∷ []

abbrev pub fraction_slots : List Slot
fraction_slots = thousandth ∷ ten_millionth ∷ hundredth ∷ []

abbrev pub sync_slots : List Slot
sync_slots = sync ∷ quality ∷ []

abbrev pub utc_slots : List Slot
utc_slots = utc ∷ zone ∷ []

abbrev pub summer_slots : List Slot
summer_slots = summer ∷ zone ∷ []

abbrev pub change_slots : List Slot
change_slots = change ∷ notice ∷ []

abbrev pub leap_slots : List Slot
leap_slots = leap ∷ notice ∷ []

abbrev pub offset_slots : List Slot
offset_slots = minus ∷ plus ∷ offset_hours ∷ offset_minutes ∷ half_hour ∷ []

abbrev pub position_slots : List Slot
position_slots =
    south ∷ latitude_degrees ∷ latitude_part ∷ latitude_whole ∷ latitude_minute ∷ latitude_hundredth
    ∷ west ∷ longitude_degrees ∷ longitude_part ∷ longitude_whole ∷ longitude_minute ∷ longitude_hundredth ∷ altitude ∷ []

-- the layout has a place for one of the slots
unfoldable pub has_any : Layout → List Slot → Bool
has_any ps [] = false
has_any ps (f ∷ fs) = has ps f || has_any ps fs

-- the fields that the layout tells as x has them, the others as before
unfoldable pub onto : Layout → State → State → State
onto ps x b =
    record {
      known = record {
        hour = pick (has_any ps time_slots) x.known.hour b.known.hour;
        minute = pick (has_any ps time_slots) x.known.minute b.known.minute;
        second = pick (has_any ps time_slots) x.known.second b.known.second;
        date = pick (has_any ps date_slots) x.known.date b.known.date;
        fraction = pick (has_any ps fraction_slots) x.known.fraction b.known.fraction;
        channel = pick (has_any ps (channel ∷ [])) x.known.channel b.known.channel;
        sync = pick (has_any ps sync_slots) x.known.sync b.known.sync;
        fix = pick (has_any ps (fix ∷ [])) x.known.fix b.known.fix;
        utc = pick (has_any ps utc_slots) x.known.utc b.known.utc;
        summer = pick (has_any ps summer_slots) x.known.summer b.known.summer;
        change = pick (has_any ps change_slots) x.known.change b.known.change;
        leap = pick (has_any ps leap_slots) x.known.leap b.known.leap;
        offset = pick (has_any ps offset_slots) x.known.offset b.known.offset;
        position = pick (has_any ps position_slots) x.known.position b.known.position;
        dsp = pick (has_any ps (dsp ∷ [])) x.known.dsp b.known.dsp;
        lsp = pick (has_any ps (lsp ∷ [])) x.known.lsp b.known.lsp;
      };
      minutes = pick (has_any ps offset_slots) x.minutes b.minutes;
      zone = pick (has_any ps offset_slots) x.zone b.zone;
      place = pick (has_any ps position_slots) x.place b.place;
      arc = pick (has_any ps position_slots) x.arc b.arc;
    }

-- a line at the head of the bytes, behind lines that told b: its number of bytes, and what is told by then
unfoldable pub line_read : Line → List ℕ → State → Option (ℕ × State)
line_read l s b =
    pick (shape (variant_at l 0 s) 0 s)
    (Some (layout_width (variant_at l 0 s), onto (variant_at l 0 s) (decoded (variant_at l 0 s) (values (variant_at l 0 s) 0 s)) b))
    None

-- a key, a word and LF
abbrev pub word_layout : List ℕ → List ℕ → Layout
word_layout key word = fixed key ∷ fixed word ∷ fixed (10 ∷ []) ∷ []

-- a key, digits that tell a slot, and LF
abbrev pub number_layout : List ℕ → ℕ → Slot → Layout
number_layout key w f = fixed key ∷ part (digits w) f ∷ fixed (10 ∷ []) ∷ []

-- "`+047.3500`" stands at k
abbrev pub degrees_at : List ℕ → ℕ → Bool
degrees_at s k =
    is_spelled (words 1 (letters (43 ∷ 45 ∷ []))) (take 1 (drop k s))
    && (is_spelled (digits 3) (take 3 (drop (k + 1) s))
    && (same_bytes (take 1 (drop (k + 4) s)) (46 ∷ []) && is_spelled (digits 4) (take 4 (drop (k + 5) s))))

-- "`+00803.75`" stands at k, with w digits of degrees
abbrev pub minutes_at : List ℕ → ℕ → ℕ → Bool
minutes_at s k w =
    is_spelled (words 1 (letters (43 ∷ 45 ∷ []))) (take 1 (drop k s)) && (is_spelled (digits w) (take w (drop (k + 1) s)) && arc_at s (k + 1 + w))
