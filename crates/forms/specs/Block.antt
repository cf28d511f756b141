-- The block: "Lines closed by LF, these keys in this order"; "A line is key, `=`, value. `-` is absent; time has no such value."
use Rattle.record.specs.declared.refusal.Refusal.{Refusal}
use Rattle.std.specs.Prelude.{◌&&◌, List, ◌∷◌, ◌++◌, [], ℕ, ◌+◌, eqb, leb, length, get_or, Result, Err}
use Prim.Native.String.{String}
use Rattle.cond.specs.Pick.{pick}
use Rattle.spelling.specs.Bytes.{text}
use Rattle.spelling.specs.Spelling.{digits, word}
use Rattle.record.specs.declared.Record.{Record}
use Rattle.record.specs.declared.refusal.Refusal.TheVariants as refusal
use Rattle.forms.specs.Fields.Channel.{channel_choice}
use Rattle.forms.specs.Fields.Date.{date_choice}
use Rattle.forms.specs.Fields.Flag.{flag_choice}
use Rattle.forms.specs.Fields.Fraction.{fraction_choice}
use Rattle.forms.specs.Fields.Offset.{offset_choice}
use Rattle.forms.specs.Fields.Position.{position_choice}
use Rattle.forms.specs.Form.{Form, read_layout}
use Rattle.forms.specs.Places.{Layout, letter, lit, one, part, layout_width, shape, two}
use Rattle.forms.specs.Slots.{Slot, altitude, change, channel, day, dsp, fix, hour, hundredth, latitude_degrees, latitude_hundredth, latitude_minute, latitude_part}
use Rattle.forms.specs.Slots.{latitude_whole, leap, longitude_degrees, longitude_hundredth, longitude_minute, longitude_part, longitude_whole, lsp, minus, minute, month}
use Rattle.forms.specs.Slots.{offset_hours, offset_minutes, ordinal, second, south, summer, sync, ten_millionth, thousandth, utc, west, year}

-- the variants of a line's value, each a layout
abbrev pub Line : Type 0
Line = List Layout

-- a key with its values, each closed by LF
abbrev pub line : String → List Layout → Line
line key [] = []
line key (ps ∷ pss) = (lit key ∷ ps ++ (lit "\n" ∷ [])) ∷ line key pss

-- "`-` is absent"
abbrev pub absent : Layout
absent = lit "-" ∷ []

-- "(`yes`/`no`)"
abbrev pub flag_line : String → Slot → Line
flag_line key f = line key (absent ∷ (part (word 0 (text "no")) f ∷ []) ∷ (part (word 1 (text "yes")) f ∷ []) ∷ [])

-- "`date` (`24-02-29`, or `day-060`)"
abbrev pub date_line : Line
date_line =
    line "date=" (absent ∷ (two year ∷ lit "-" ∷ two month ∷ lit "-" ∷ two day ∷ []) ∷ (lit "day-" ∷ part (digits 3) ordinal ∷ []) ∷ [])

-- "`time` (`23:59:60`)"
abbrev pub time_line : Line
time_line = line "time=" ((two hour ∷ lit ":" ∷ two minute ∷ lit ":" ∷ two second ∷ []) ∷ [])

-- "`fraction` (3 or 7 digits)"; W-204 "with two digits"
abbrev pub fraction_line : Line
fraction_line =
    line "fraction=" (absent ∷ (part (digits 3) thousandth ∷ []) ∷ (part (digits 7) ten_millionth ∷ []) ∷ (two hundredth ∷ []) ∷ [])

-- "`channel`"
abbrev pub channel_line : Line
channel_line = line "channel=" (absent ∷ (one channel ∷ []) ∷ [])

-- "`offset` (`+01:00`)"
abbrev pub offset_line : Line
offset_line = line "offset=" (absent ∷ (letter minus "+-" ∷ two offset_hours ∷ lit ":" ∷ two offset_minutes ∷ []) ∷ [])

-- "`position` (`+047.3500 +008.0625 0431`)"; W-204 "as `+4721.00 +00803.75`"
abbrev pub position_line : Line
position_line =
    line "position="
    (absent
    ∷ (letter south "+-" ∷ part (digits 3) latitude_degrees ∷ lit "." ∷ part (digits 4) latitude_part ∷ lit " "
    ∷ letter west "+-" ∷ part (digits 3) longitude_degrees ∷ lit "." ∷ part (digits 4) longitude_part ∷ lit " "
    ∷ part (digits 4) altitude ∷ [])
    ∷ (letter south "+-" ∷ two latitude_whole ∷ two latitude_minute ∷ lit "." ∷ two latitude_hundredth ∷ lit " "
    ∷ letter west "+-" ∷ part (digits 3) longitude_whole ∷ two longitude_minute ∷ lit "." ∷ two longitude_hundredth ∷ [])
    ∷ [])

-- "these keys in this order"
abbrev pub block_lines : List Line
block_lines =
    date_line ∷ time_line ∷ fraction_line ∷ channel_line ∷ flag_line "sync=" sync ∷ flag_line "fix=" fix ∷ flag_line "utc=" utc
    ∷ flag_line "summer=" summer ∷ flag_line "change=" change ∷ flag_line "leap=" leap ∷ offset_line ∷ position_line
    ∷ flag_line "dsp=" dsp ∷ flag_line "lsp=" lsp ∷ []

-- reading

-- the first variant of a line that fits the bytes from k on, else its last one
unfoldable pub variant_at : Line → ℕ → List ℕ → Layout
variant_at [] k s = []
variant_at (ps ∷ []) k s = ps
variant_at (ps ∷ qs ∷ pss) k s = pick (shape ps k s) ps (variant_at (qs ∷ pss) k s)

-- the layout that lines have in these bytes, each line where the one before it ends
unfoldable pub layout_at : List Line → ℕ → List ℕ → Layout
layout_at [] k s = []
layout_at (l ∷ ls) k s = variant_at l k s ++ layout_at ls (layout_width (variant_at l k s) + k) s

-- an edition of the block: its lines, which variant of each a record takes, and the least and the greatest number of bytes
pub record Edition : Type 0 where
  pub lines : List Line
  pub choices : Record → List ℕ
  pub least : ℕ
  pub most : ℕ

-- the answer of the reader: so many bytes, and all of them are these lines
unfoldable pub read_block : Edition → List ℕ → Result Record Refusal
read_block e s =
    pick (leb e.least (length s) && leb (length s) e.most)
    (pick (eqb (layout_width (layout_at e.lines 0 s)) (length s)) (read_layout (layout_at e.lines 0 s) [] s) (Err refusal.WrongByte))
    (Err refusal.WrongLength)

-- writing

-- a choice for each line
abbrev pub choices : Record → List ℕ
choices r =
    date_choice r.date ∷ 0 ∷ fraction_choice r.fraction ∷ channel_choice r.channel ∷ flag_choice r.sync ∷ flag_choice r.fix
    ∷ flag_choice r.utc ∷ flag_choice r.summer ∷ flag_choice r.change ∷ flag_choice r.leap ∷ offset_choice r.offset
    ∷ position_choice r.position ∷ flag_choice r.dsp ∷ flag_choice r.lsp ∷ []

-- the layout of lines so chosen
unfoldable pub chosen_layout : List Line → List ℕ → Layout
chosen_layout [] cs = []
chosen_layout (l ∷ ls) [] = []
chosen_layout (l ∷ ls) (c ∷ cs) = get_or l c [] ++ chosen_layout ls cs

-- an edition as the writer lays it out for a record
unfoldable pub block_of : Edition → Record → Form
block_of e r =
    record { size = layout_width (chosen_layout e.lines (e.choices r)); layout = chosen_layout e.lines (e.choices r); checksums = [] }

-- form 9, "118..174" bytes
abbrev pub first_edition : Edition
first_edition = record { lines = block_lines; choices = choices; least = 118; most = 174 }
