-- The numbers of a record: "The numbers of an absent field are 0".
use Rattle.record.specs.declared.refusal.Refusal.{Refusal}
use Rattle.std.specs.Prelude.{List, [], ◌∷◌, ◌++◌, ◌≡◌, ℕ, leb, nat_abs, length, Option, None, Some, Result, Ok, Err}
use Rattle.cond.specs.Pick.{one_if, pick}
use Rattle.record.specs.declared.Date.{Date}
use Rattle.record.specs.declared.Date.TheVariants as DateIs
use Rattle.record.specs.declared.Fraction.{Fraction}
use Rattle.record.specs.declared.Fraction.TheVariants as FractionIs
use Rattle.record.specs.declared.Record.{Record}
use Rattle.record.specs.declared.refusal.Refusal.TheVariants as refusal
use Rattle.forms.specs.Fields.Channel.{channel_choice, encode_channel}
use Rattle.forms.specs.Fields.Date.{date_choice, encode_day, encode_month, encode_year}
use Rattle.forms.specs.Fields.Flag.{flag_choice}
use Rattle.forms.specs.Fields.Fraction.{fraction_choice}
use Rattle.forms.specs.Fields.Offset.{encode_minutes, offset_choice}
use Rattle.forms.specs.Fields.Position.{encode_altitude, latitude_of, longitude_of, position_choice}
use Rattle.forms.specs.Form.{left_of}
use Rattle.fields.specs.Signs.{is_minus, is_south, is_west}

-- how many numbers a record has
abbrev pub size : ℕ
size = 29

-- a day of year that stands alone
abbrev pub day_alone : Option Date → ℕ
day_alone None = 0
day_alone (Some (DateIs.Full y m d)) = 0
day_alone (Some (DateIs.DayOfYear n)) = n

-- the value of a fraction of any kind
abbrev pub fraction_value : Option Fraction → ℕ
fraction_value None = 0
fraction_value (Some (FractionIs.Thousandths n)) = n
fraction_value (Some (FractionIs.TenMillionths n)) = n
fraction_value (Some (FractionIs.Hundredths n)) = n

-- the numbers of a record in the order in which they stand in memory; a field's kind is the number of its variant in the block

unfoldable pub head_of : Record → List ℕ
head_of r =
    r.hour ∷ r.minute ∷ r.second
    ∷ date_choice r.date ∷ encode_year r.date ∷ encode_month r.date ∷ encode_day r.date ∷ day_alone r.date
    ∷ fraction_choice r.fraction ∷ fraction_value r.fraction ∷ channel_choice r.channel ∷ encode_channel r.channel ∷ []

unfoldable pub tail_of : Record → List ℕ
tail_of r =
    flag_choice r.sync ∷ flag_choice r.fix ∷ flag_choice r.utc
    ∷ flag_choice r.summer ∷ flag_choice r.change ∷ flag_choice r.leap
    ∷ offset_choice r.offset ∷ one_if (is_minus r.offset) ∷ encode_minutes r.offset
    ∷ position_choice r.position ∷ one_if (is_south r.position) ∷ nat_abs (latitude_of r.position)
    ∷ one_if (is_west r.position) ∷ nat_abs (longitude_of r.position) ∷ encode_altitude r.position
    ∷ flag_choice r.dsp ∷ flag_choice r.lsp ∷ []

abbrev pub numbers_of : Record → List ℕ
numbers_of r = head_of r ++ tail_of r

-- "too short to store into: refused 10"
unfoldable pub put_answer : ℕ → Result ℕ Refusal
put_answer room = pick (leb size room) (Ok size) (Err refusal.ShortBuffer)

-- what the contract of `put_record` says: its answer, and every number of the buffer afterwards
pub record Put (r : Record) (w : Result ℕ Refusal) (before after : List ℕ) : Type 0 where
  pub answer : w ≡ put_answer (length before)
  pub left : after ≡ left_of w (numbers_of r) before
