-- Inner: the frame's layout in pieces, its groups of digits, and what it tells. The sign rule decides what the sign means, and nothing else; so
-- these are the pieces and values under one rule.
use Rattle.std.specs.Prelude.{Bool, not, List, [], ◌∷◌, ℕ, take, drop}
use Rattle.record.specs.declared.sign.SignRule.{SignRule}
use Rattle.record.specs.declared.sign.SignRule.TheVariants.{OneAbove, OneBelow}
use Rattle.spelling.specs.Bytes.{Group, digit, gap}
use Rattle.forms.specs.Form.{values_by}
use Rattle.forms.specs.Frame.{frame, frame_layout}
use Rattle.forms.specs.Places.{Layout}
use Rattle.forms.specs.Slots.{Values}

-- "Marks stand at 0, 9, 19, ..", "seconds 1-4 and 6-8; minutes 10-13, 15-17; hours 20-23, 25-26"
abbrev pub time_layout : Layout
time_layout = take 9 (frame_layout OneBelow)

-- "day of year 30-33, 35-38, 40-41; year 50-53, 55-58"
abbrev pub date_layout : Layout
date_layout = take 5 (drop 9 (frame_layout OneBelow))

-- "60 lsp; 61 leap deletion; 62 dsp; 63 summer; 64 offset sign; 65-68 whole hours of offset; 70 its half hour; 71-74 TFOM; 75 parity"
abbrev pub zone_layout : Layout
zone_layout = take 12 (drop 14 (frame_layout OneBelow))

-- two digits with a fixed element between them, as "seconds 1-4 and 6-8"
abbrev pub pair : ℕ → ℕ → ℕ → List Group
pair low e high = digit low ∷ gap e ∷ digit high ∷ []

-- three decimal digits: "day of year 30-33, 35-38, 40-41", the mark at 39 between
abbrev pub days : List Group
days = digit 4 ∷ gap 0 ∷ digit 4 ∷ gap 2 ∷ digit 2 ∷ []

-- what a frame tells, a sign of 1 as a minus
abbrev pub told : List ℕ → Values
told s = values_by (frame OneBelow) s

-- whether a sign of 1 is a minus
abbrev pub minus_by : SignRule → Bool → Bool
minus_by OneBelow b = b
minus_by OneAbove b = not b
