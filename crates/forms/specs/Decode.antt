-- The record that the values of a string spell; the decoders of its fields are passed on with it.
use Rattle.record.specs.declared.Record.{Record}
use Rattle.forms.specs.Carries.{Carries}
unfoldable pub use Rattle.forms.specs.Fields.Channel.{decode_channel}
unfoldable pub use Rattle.forms.specs.Fields.Date.{decode_date}
unfoldable pub use Rattle.forms.specs.Fields.Flag.{decode_flag}
unfoldable pub use Rattle.forms.specs.Fields.Fraction.{decode_fraction}
use Rattle.forms.specs.Fields.Offset.{is_offset, sign_rule, told_by, told_sign}
unfoldable pub use Rattle.forms.specs.Fields.Offset.{decode_minutes, decode_offset}
unfoldable pub use Rattle.forms.specs.Fields.Position.{decode_position}
use Rattle.forms.specs.Slots.{Values, change, dsp, fix, hour, leap, lsp, minute, notice, quality, second, summer, sync, utc, zone}

-- "A read yields the fields which that form carries, and marks every other field absent."
abbrev pub decode : Carries → Values → Record
decode k v =
    record {
      hour = v hour;
      minute = v minute;
      second = v second;
      date = decode_date k.date v;
      fraction = decode_fraction k.fraction v;
      channel = decode_channel k.channel v;
      sync = decode_flag k.sync (v sync) (v quality);
      fix = decode_flag k.fix (v fix) 0;
      utc = decode_flag k.utc (v utc) (v zone);
      summer = decode_flag k.summer (v summer) (v zone);
      change = decode_flag k.change (v change) (v notice);
      leap = decode_flag k.leap (v leap) (v notice);
      offset = told_by (sign_rule k.offset) (decode_offset (is_offset k.offset) (told_sign k.offset v) (decode_minutes k.offset v));
      position = decode_position k.position v;
      dsp = decode_flag k.dsp (v dsp) 0;
      lsp = decode_flag k.lsp (v lsp) 0;
    }
