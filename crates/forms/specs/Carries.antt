-- What a form carries beside the time, computed from its layout.
use Rattle.std.specs.Prelude.{Bool}
use Rattle.forms.specs.Fields.Date.{DateKind, date_kind}
use Rattle.forms.specs.Fields.Flag.{FlagKind, first_kind, own_kind, second_kind, sync_kind}
use Rattle.forms.specs.Fields.Fraction.{FractionKind, fraction_kind}
use Rattle.forms.specs.Fields.Offset.{OffsetKind, offset_kind}
use Rattle.forms.specs.Fields.Position.{PositionKind, position_kind}
use Rattle.forms.specs.Places.{Layout, has}
use Rattle.forms.specs.Slots.{change, channel, day_seconds, dsp, fix, leap, leap_second, lsp, notice, quality, summer, sync, utc, weekday, zone}

-- the column "carries beside time", and whether the layout tells the weekday, the leap second and the seconds of the day
pub record Carries : Type 0 where
  pub date : DateKind
  pub fraction : FractionKind
  pub channel : Bool
  pub sync : FlagKind
  pub fix : FlagKind
  pub utc : FlagKind
  pub summer : FlagKind
  pub change : FlagKind
  pub leap : FlagKind
  pub offset : OffsetKind
  pub position : PositionKind
  pub dsp : FlagKind
  pub lsp : FlagKind
  pub weekday : Bool
  pub leap_second : Bool
  pub day_seconds : Bool

-- a form carries what its layout has places for
unfoldable pub carries_of : Layout → Carries
carries_of ps =
    record {
      date = date_kind ps;
      fraction = fraction_kind ps;
      channel = has ps channel;
      sync = sync_kind (has ps sync) (has ps quality);
      fix = own_kind (has ps fix);
      utc = first_kind (has ps zone) (has ps utc);
      summer = second_kind (has ps zone) (has ps summer);
      change = first_kind (has ps notice) (has ps change);
      leap = second_kind (has ps notice) (has ps leap);
      offset = offset_kind ps;
      position = position_kind ps;
      dsp = own_kind (has ps dsp);
      lsp = own_kind (has ps lsp);
      weekday = has ps weekday;
      leap_second = has ps leap_second;
      day_seconds = has ps day_seconds;
    }
