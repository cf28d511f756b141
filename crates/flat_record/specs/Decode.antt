-- The record that numbers give: those of an absent field are not looked at.
use Rattle.record.specs.declared.refusal.Refusal.{Refusal}
use Rattle.std.specs.Prelude.{Bool, true, false, ◌&&◌, List, ℕ, eqb, leb, ℤ, length, get_or, Option, None, Some, Result, Ok, Err}
use Rattle.cond.specs.Pick.{pick}
use Rattle.record.specs.declared.Date.{Date}
use Rattle.record.specs.declared.Date.TheVariants as DateIs
use Rattle.record.specs.declared.Fraction.{Fraction}
use Rattle.record.specs.declared.Fraction.TheVariants as FractionIs
use Rattle.record.specs.declared.Position.{Position}
use Rattle.record.specs.declared.Position.TheVariants as PositionIs
use Rattle.record.specs.declared.Record.{Record}
use Rattle.record.specs.declared.refusal.Refusal.TheVariants as refusal
use Rattle.record.specs.Sign.{signed}
use Rattle.flat_record.specs.declared.decode.Kind.{Kind}
use Rattle.flat_record.specs.declared.decode.Kind.TheVariants as kind
use Rattle.flat_record.specs.Encode.{size}

-- what the first number of a field says
unfoldable pub kind_of : ℕ → Kind
kind_of n = pick (eqb n 0) kind.Absent (pick (eqb n 1) kind.First (pick (eqb n 2) kind.Second (pick (eqb n 3) kind.Third kind.Unknown)))

-- the number at a place
abbrev pub at : List ℕ → ℕ → ℕ
at ns i = get_or ns i 0

-- the fields, each of its kind and its numbers; a kind that is unknown is refused below, before any of them

abbrev pub date_in : Kind → ℕ → ℕ → ℕ → ℕ → Option Date
date_in kind.Absent y m d n = None
date_in kind.First y m d n = Some (DateIs.Full y m d)
date_in kind.Second y m d n = Some (DateIs.DayOfYear n)
date_in kind.Third y m d n = None
date_in kind.Unknown y m d n = None

abbrev pub date_at : List ℕ → Option Date
date_at ns = date_in (kind_of (at ns 3)) (at ns 4) (at ns 5) (at ns 6) (at ns 7)

abbrev pub fraction_in : Kind → ℕ → Option Fraction
fraction_in kind.Absent n = None
fraction_in kind.First n = Some (FractionIs.Thousandths n)
fraction_in kind.Second n = Some (FractionIs.TenMillionths n)
fraction_in kind.Third n = Some (FractionIs.Hundredths n)
fraction_in kind.Unknown n = None

abbrev pub channel_in : Kind → ℕ → Option ℕ
channel_in kind.Absent n = None
channel_in kind.First n = Some n
channel_in kind.Second n = None
channel_in kind.Third n = None
channel_in kind.Unknown n = None

abbrev pub flag_in : Kind → Option Bool
flag_in kind.Absent = None
flag_in kind.First = Some false
flag_in kind.Second = Some true
flag_in kind.Third = None
flag_in kind.Unknown = None

-- a sign (1 for negative) and a magnitude
abbrev pub signed_in : ℕ → ℕ → ℤ
signed_in s m = signed (eqb s 1) m

abbrev pub offset_in : Kind → ℤ → Option ℤ
offset_in kind.Absent z = None
offset_in kind.First z = Some z
offset_in kind.Second z = None
offset_in kind.Third z = None
offset_in kind.Unknown z = None

abbrev pub offset_at : List ℕ → Option ℤ
offset_at ns = offset_in (kind_of (at ns 18)) (signed_in (at ns 19) (at ns 20))

abbrev pub position_in : Kind → ℤ → ℤ → ℕ → Option Position
position_in kind.Absent lat lon alt = None
position_in kind.First lat lon alt = Some (PositionIs.Degrees lat lon alt)
position_in kind.Second lat lon alt = Some (PositionIs.Minutes lat lon)
position_in kind.Third lat lon alt = None
position_in kind.Unknown lat lon alt = None

abbrev pub position_at : List ℕ → Option Position
position_at ns = position_in (kind_of (at ns 21)) (signed_in (at ns 22) (at ns 23)) (signed_in (at ns 24) (at ns 25)) (at ns 26)

-- "A kind that is none of these, a sign that is not 0 or 1, or a magnitude that does not fit an i32" where one of these is false

abbrev pub sign_fits : ℕ → ℕ → Bool
sign_fits s m = leb s 1 && leb m 2147483647

-- a field of one kind, or of two, that is absent, or there with numbers that fit

abbrev pub fits_if_there : Kind → Bool → Bool
fits_if_there kind.Absent b = true
fits_if_there kind.First b = b
fits_if_there kind.Second b = false
fits_if_there kind.Third b = false
fits_if_there kind.Unknown b = false

abbrev pub fits_if_either : Kind → Bool → Bool
fits_if_either kind.Absent b = true
fits_if_either kind.First b = b
fits_if_either kind.Second b = b
fits_if_either kind.Third b = false
fits_if_either kind.Unknown b = false

abbrev pub offset_fits : List ℕ → Bool
offset_fits ns = fits_if_there (kind_of (at ns 18)) (sign_fits (at ns 19) (at ns 20))

abbrev pub signs_fit : List ℕ → Bool
signs_fit ns = sign_fits (at ns 22) (at ns 23) && sign_fits (at ns 24) (at ns 25)

abbrev pub position_fits : List ℕ → Bool
position_fits ns = fits_if_either (kind_of (at ns 21)) (signs_fit ns)

abbrev pub kinds_fit : List ℕ → Bool
kinds_fit ns =
    leb (at ns 3) 2 && leb (at ns 8) 3 && leb (at ns 10) 1
    && leb (at ns 12) 2 && leb (at ns 13) 2 && leb (at ns 14) 2 && leb (at ns 15) 2 && leb (at ns 16) 2 && leb (at ns 17) 2
    && leb (at ns 27) 2 && leb (at ns 28) 2

-- numbers that are a record's, good or bad
unfoldable pub is_flat : List ℕ → Bool
is_flat ns = kinds_fit ns && offset_fits ns && position_fits ns

-- the record of such numbers
unfoldable pub record_at : List ℕ → Record
record_at ns =
    record {
      hour = at ns 0;
      minute = at ns 1;
      second = at ns 2;
      date = date_at ns;
      fraction = fraction_in (kind_of (at ns 8)) (at ns 9);
      channel = channel_in (kind_of (at ns 10)) (at ns 11);
      sync = flag_in (kind_of (at ns 12));
      fix = flag_in (kind_of (at ns 13));
      utc = flag_in (kind_of (at ns 14));
      summer = flag_in (kind_of (at ns 15));
      change = flag_in (kind_of (at ns 16));
      leap = flag_in (kind_of (at ns 17));
      offset = offset_at ns;
      position = position_at ns;
      dsp = flag_in (kind_of (at ns 27));
      lsp = flag_in (kind_of (at ns 28));
    }

-- "is refused as a bad record (7)", and so is any other number of numbers
unfoldable pub record_of : List ℕ → Result Record Refusal
record_of ns =
    pick (eqb (length ns) size) (pick (is_flat ns) (Ok (record_at ns)) (Err refusal.BadRecord))
    (Err refusal.BadRecord)
