-- The IEEE1344 frame: "Ten groups of ten elements, sent as bytes 0, 1, or 2 for a position mark."
use Rattle.std.specs.Prelude.{[], ◌∷◌}
use Rattle.record.specs.declared.sign.SignRule.{SignRule}
use Rattle.spelling.specs.Bytes.{digit, gap}
use Rattle.spelling.specs.Spelling.{bits, grouped, words}
use Rattle.forms.specs.Checksum.{even_ones, checksum_by}
use Rattle.forms.specs.Fields.Offset.{sign_slot}
use Rattle.forms.specs.Form.{Form}
use Rattle.forms.specs.Places.{Place, Layout, fixed, part}
use Rattle.forms.specs.Slots.{Slot, day_seconds, deletion, dsp, half_hour, hour, lsp, minute, offset_hours, ordinal, quality, second, checksum}
use Rattle.forms.specs.Slots.{summer, year}

-- "Marks stand at 0, 9, 19, .. 99."
abbrev pub mark : Place
mark = fixed (2 ∷ [])

-- one element
abbrev pub bit : Slot → Place
bit f = part (bits 1) f

-- one element that tells no half hour or one; an offset between has no element, and is refused with 9
abbrev pub half_hour_bit : Place
half_hour_bit = part (words 1 ((0 ∷ []) ∷ (1 ∷ []) ∷ [])) half_hour

-- the ten groups, over the sign rule at 64; "the rest is 0"
abbrev pub frame_layout : SignRule → Layout
frame_layout x =
    -- "seconds 1-4 and 6-8"
    mark ∷ part (grouped 10 (digit 4 ∷ gap 0 ∷ digit 3 ∷ [])) second ∷ mark
    -- "minutes 10-13, 15-17"
    ∷ part (grouped 10 (digit 4 ∷ gap 0 ∷ digit 3 ∷ [])) minute ∷ fixed (0 ∷ []) ∷ mark
    -- "hours 20-23, 25-26"
    ∷ part (grouped 10 (digit 4 ∷ gap 0 ∷ digit 2 ∷ [])) hour ∷ fixed (0 ∷ 0 ∷ []) ∷ mark
    -- "day of year 30-33, 35-38, 40-41", the mark at 39 between
    ∷ part (grouped 10 (digit 4 ∷ gap 0 ∷ digit 4 ∷ gap 2 ∷ digit 2 ∷ [])) ordinal
    ∷ fixed (0 ∷ 0 ∷ 0 ∷ 0 ∷ 0 ∷ 0 ∷ 0 ∷ []) ∷ mark
    -- "year 50-53, 55-58"
    ∷ part (grouped 10 (digit 4 ∷ gap 0 ∷ digit 4 ∷ [])) year ∷ mark
    -- "60 lsp; 61 leap deletion; 62 dsp; 63 summer; 64 offset sign; 65-68 whole hours of offset"
    ∷ bit lsp ∷ bit deletion ∷ bit dsp ∷ bit summer ∷ bit (sign_slot x) ∷ part (bits 4) offset_hours ∷ mark
    -- "70 its half hour; 71-74 TFOM; 75 parity"
    ∷ half_hour_bit ∷ part (bits 4) quality ∷ bit checksum ∷ fixed (0 ∷ 0 ∷ 0 ∷ []) ∷ mark
    -- "80-88 and 90-97 the seconds of the day", the mark at 89 between
    ∷ part (grouped 512 (digit 9 ∷ gap 2 ∷ digit 8 ∷ [])) day_seconds ∷ fixed (0 ∷ []) ∷ mark
    ∷ []

-- the frame of a sign rule; "the ones at 1..75 are even in number"
abbrev pub frame : SignRule → Form
frame x = record { size = 100; layout = frame_layout x; checksums = checksum_by even_ones 1 74 ∷ [] }
