-- The numbers of a field, of whichever kind it is, are those of a field, and give it back.
use Rattle.std.specs.Prelude.{Option, None, Some}
use Rattle.cond.proofs.Kit.{◌&&◌, ◌≡◌, ap, Bool, eqb, false, leb, nat_abs, refl, true, ℕ, ℤ}
use Rattle.cond.specs.Pick.{one_if}
use Rattle.cond.proofs.Tests.{both_hold}
use Rattle.record.specs.declared.Date.{Date}
use Rattle.record.specs.declared.Date.TheVariants as DateIs
use Rattle.record.specs.declared.Fraction.{Fraction}
use Rattle.record.specs.declared.Fraction.TheVariants as FractionIs
use Rattle.record.specs.declared.Position.{Position}
use Rattle.record.specs.declared.Position.TheVariants as PositionIs
use Rattle.record.specs.Sign.{is_negative}
use Rattle.record.proofs.Signs.{signed_back}
use Rattle.forms.specs.Fields.Channel.{channel_choice, encode_channel}
use Rattle.forms.specs.Fields.Date.{date_choice, encode_day, encode_month, encode_year}
use Rattle.forms.specs.Fields.Flag.{flag_choice}
use Rattle.forms.specs.Fields.Fraction.{fraction_choice}
use Rattle.forms.specs.Fields.Offset.{encode_minutes, offset_choice}
use Rattle.forms.specs.Fields.Position.{encode_altitude, latitude_of, longitude_of, position_choice}
use Rattle.fields.specs.Signs.{is_minus, is_south, is_west}
use Rattle.flat_record.specs.Decode.{channel_in, date_in, fits_if_either, fits_if_there, flag_in, fraction_in, kind_of, offset_in, position_in, sign_fits, signed_in}
use Rattle.flat_record.specs.Encode.{day_alone, fraction_value}

-- a field's number of a kind, and the field

pub record Fits {A : Type 0} (n most : ℕ) (found field : A) : Type 0 where
  pub known : leb n most ≡ true
  pub same : found ≡ field

pub date_back : (d : Option Date) → Fits (date_choice d) 2 (date_in (kind_of (date_choice d)) (encode_year d) (encode_month d) (encode_day d) (day_alone d)) d
unfolding kind_of
date_back None = record { known = refl; same = refl }
date_back (Some (DateIs.Full y m d)) = record { known = refl; same = refl }
date_back (Some (DateIs.DayOfYear n)) = record { known = refl; same = refl }

pub fraction_back : (f : Option Fraction) → Fits (fraction_choice f) 3 (fraction_in (kind_of (fraction_choice f)) (fraction_value f)) f
unfolding kind_of
fraction_back None = record { known = refl; same = refl }
fraction_back (Some (FractionIs.Thousandths n)) = record { known = refl; same = refl }
fraction_back (Some (FractionIs.TenMillionths n)) = record { known = refl; same = refl }
fraction_back (Some (FractionIs.Hundredths n)) = record { known = refl; same = refl }

pub channel_back : (c : Option ℕ) → Fits (channel_choice c) 1 (channel_in (kind_of (channel_choice c)) (encode_channel c)) c
unfolding kind_of
channel_back None = record { known = refl; same = refl }
channel_back (Some n) = record { known = refl; same = refl }

pub flag_back : (f : Option Bool) → Fits (flag_choice f) 2 (flag_in (kind_of (flag_choice f))) f
unfolding kind_of
flag_back None = record { known = refl; same = refl }
flag_back (Some false) = record { known = refl; same = refl }
flag_back (Some true) = record { known = refl; same = refl }

-- a sign and a magnitude

sign_one : (b : Bool) → (leb (one_if b) 1 ≡ true) × (eqb (one_if b) 1 ≡ b)
sign_one true = (refl, refl)
sign_one false = (refl, refl)

signed_is : (z : ℤ) → signed_in (one_if (is_negative z)) (nat_abs z) ≡ z
signed_is z = rw (sign_one (is_negative z)).1 (signed_back z)

sign_fits_lem : (z : ℤ) → leb (nat_abs z) 2147483647 ≡ true → sign_fits (one_if (is_negative z)) (nat_abs z) ≡ true
sign_fits_lem z h = rw ((sign_one (is_negative z)).0, h)

pub offset_back : (o : Option ℤ) → leb (encode_minutes o) 2147483647 ≡ true
    → (fits_if_there (kind_of (offset_choice o)) (sign_fits (one_if (is_minus o)) (encode_minutes o)) ≡ true)
    × (offset_in (kind_of (offset_choice o)) (signed_in (one_if (is_minus o)) (encode_minutes o)) ≡ o)
unfolding kind_of
offset_back None h = (refl, refl)
offset_back (Some z) h = (sign_fits_lem z h, ap Some (signed_is z))

module _ (p : Option Position) where
  abbrev Signs : Bool
  Signs = sign_fits (one_if (is_south p)) (nat_abs (latitude_of p)) && sign_fits (one_if (is_west p)) (nat_abs (longitude_of p))

  abbrev Found : Option Position
  Found =
      position_in (kind_of (position_choice p)) (signed_in (one_if (is_south p)) (nat_abs (latitude_of p)))
      (signed_in (one_if (is_west p)) (nat_abs (longitude_of p))) (encode_altitude p)

pub position_back : (p : Option Position) → leb (nat_abs (latitude_of p)) 2147483647 ≡ true → leb (nat_abs (longitude_of p)) 2147483647 ≡ true
    → (fits_if_either (kind_of (position_choice p)) (Signs p) ≡ true) × (Found p ≡ p)
unfolding kind_of
position_back None h l = (refl, refl)
position_back (Some (PositionIs.Degrees lat lon alt)) h l = (both_hold _ _ (sign_fits_lem lat h) (sign_fits_lem lon l), rw (signed_is lat, signed_is lon))
position_back (Some (PositionIs.Minutes lat lon)) h l = (both_hold _ _ (sign_fits_lem lat h) (sign_fits_lem lon l), rw (signed_is lat, signed_is lon))
