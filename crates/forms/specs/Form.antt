-- A form of one length, and what its reader and its writer answer.
use Rattle.record.specs.declared.refusal.Refusal.{Refusal}
use Rattle.std.specs.Prelude.{Bool, ◌&&◌, ◌||◌, List, ◌++◌, ◌∷◌, [], ◌≡◌, ℕ, leb, eqb, length, drop, Result, Ok, Err}
use Rattle.cond.specs.Pick.{pick}
use Rattle.record.specs.Record.{in_range, is_good, zone_agrees}
use Rattle.record.specs.declared.Record.{Record}
use Rattle.record.specs.declared.refusal.Refusal.TheVariants as refusal
use Rattle.forms.specs.All.{all}
use Rattle.forms.specs.Carries.{Carries, carries_of}
use Rattle.forms.specs.Checksum.{Checksum, checksums_hold, with_checksums}
use Rattle.forms.specs.Fields.Date.{weekday_in_range, weekday_consistent}
use Rattle.forms.specs.Fields.Flag.{quality_in_range}
use Rattle.forms.specs.Fields.Offset.{OffsetKind, minutes_in_range, offset_consistent}
use Rattle.forms.specs.Fields.Position.{PositionKind, arc_in_range, position_consistent}
use Rattle.forms.specs.Fields.Time.{deletion_in_range, leap_consistent, seconds_consistent}
use Rattle.forms.specs.Required.{has_carried}
use Rattle.forms.specs.Places.{Layout, has_words, bytes_of, has, shape, values}
use Rattle.forms.specs.Slots.{Slot, Values, deletion, hour, minute, offset_minutes, quality, second, weekday}
use Rattle.forms.specs.Decode.{decode}
use Rattle.forms.specs.Encode.{encode}

-- a form: its number of bytes, its layout, its checksums
pub record Form : Type 0 where
  pub size : ℕ
  pub layout : Layout
  pub checksums : List Checksum

-- what the form carries beside the time
abbrev pub carries : Form → Carries
carries d = carries_of d.layout

-- what a string tells
abbrev pub values_by : Form → List ℕ → Values
values_by d s = values d.layout 0 s

-- refusal 4

-- the tests that are a field's own; a slot without a place tells 0
abbrev pub number_tests : Values → List Bool
number_tests v = arc_in_range v ∷ minutes_in_range (v offset_minutes) ∷ quality_in_range (v quality) ∷ deletion_in_range (v deletion) ∷ []

unfoldable pub numbers_in_range : Values → Bool
numbers_in_range v = all (number_tests v)

abbrev pub range_tests : Carries → Values → List Bool
range_tests k v = in_range (decode k v) ∷ weekday_in_range k.weekday (v weekday) ∷ numbers_in_range v ∷ []

-- "a number is outside its range" where this is false
unfoldable pub ranges : Carries → Values → Bool
ranges k v = all (range_tests k v)

-- refusal 5

-- "minus, S or W on a zero"
unfoldable pub signs_consistent : OffsetKind → PositionKind → Values → Bool
signs_consistent o p v = offset_consistent o v && position_consistent p v

abbrev pub consistency_tests : Carries → Values → List Bool
consistency_tests k v =
    weekday_consistent k.weekday v
    ∷ leap_consistent k.leap_second v
    ∷ seconds_consistent k.day_seconds v
    ∷ signs_consistent k.offset k.position v
    ∷ zone_agrees (decode k v)
    ∷ []

-- "parts disagree" where this is false
unfoldable pub consistent : Carries → Values → Bool
consistent k v = all (consistency_tests k v)

-- "Readers test in the order 1, 2, 3, 6, 4, 5"

-- the last two tests, of what the bytes tell
unfoldable pub validated : Carries → Values → Result Record Refusal
validated k v =
    pick (ranges k v) (pick (consistent k v) (Ok (decode k v)) (Err refusal.Disagreement)) (Err refusal.OutOfRange)

-- the tests of bytes that are as many as the layout asks
unfoldable pub read_layout : Layout → List Checksum → List ℕ → Result Record Refusal
read_layout ps cs s =
    pick (shape ps 0 s)
    (pick (checksums_hold cs s (values ps 0 s)) (validated (carries_of ps) (values ps 0 s)) (Err refusal.WrongChecksum))
    (Err refusal.WrongByte)

-- the answer of the reader
unfoldable pub read_by : Form → List ℕ → Result Record Refusal
read_by d s = pick (eqb (length s) d.size) (read_layout d.layout d.checksums s) (Err refusal.WrongLength)

-- "writers 1, 7, 8, 9, 10"

-- a part of the time that the layout does not tell is 0
abbrev pub encoded_or_zero : Layout → Values → Slot → Bool
encoded_or_zero ps v f = has ps f || eqb (v f) 0

abbrev pub express_tests : Layout → Values → List Bool
express_tests ps v = encoded_or_zero ps v hour ∷ encoded_or_zero ps v minute ∷ encoded_or_zero ps v second ∷ has_words ps v ∷ []

-- 9 is given where this is false: a letter or an element has no word for the record's values, "form 1 with change and leap both
-- yes; form 8 with an offset not a multiple of 30"
unfoldable pub is_expressible : Layout → Values → Bool
is_expressible ps v = all (express_tests ps v)

-- the answer of the writer into a buffer of n bytes
unfoldable pub write_by : Form → Record → ℕ → Result ℕ Refusal
write_by d r n =
    pick (is_good r)
    (pick (has_carried (carries d) r)
    (pick (is_expressible d.layout (encode r))
    (pick (leb d.size n) (Ok d.size) (Err refusal.ShortBuffer))
    (Err refusal.NotExpressible))
    (Err refusal.MissingField))
    (Err refusal.BadRecord)

-- the bytes of a form that tells v; a checksum is taken over bytes that tell none
unfoldable pub bytes_by : Form → Values → List ℕ
bytes_by d v = bytes_of d.layout (with_checksums d.checksums (bytes_of d.layout v) v)

-- "A refused write .. changes no byte. A write that succeeds fills the first bytes ..; the bytes behind stay."
abbrev pub left_of : Result ℕ Refusal → List ℕ → List ℕ → List ℕ
left_of (Ok n) bytes out = bytes ++ drop n out
left_of (Err x) bytes out = out

-- what the writer leaves in the buffer
unfoldable pub left_by : Form → Record → List ℕ → List ℕ
left_by d r out = left_of (write_by d r (length out)) (bytes_by d (encode r)) out

-- what a writer's contract says: its answer, and every byte of the buffer afterwards
pub record Wrote (d : Form) (r : Record) (w : Result ℕ Refusal) (before after : List ℕ) : Type 0 where
  pub answer : w ≡ write_by d r (length before)
  pub left : after ≡ left_by d r before
