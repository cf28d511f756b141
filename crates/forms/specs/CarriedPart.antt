-- What a form carries of a record: a field that it does not carry becomes absent.
use Rattle.record.specs.declared.Record.{Record}
use Rattle.forms.specs.Carries.{Carries}
use Rattle.forms.specs.Fields.Channel.{carried_channel}
use Rattle.forms.specs.Fields.Date.{carried_date}
use Rattle.forms.specs.Fields.Flag.{is_carried, carried_flag}
use Rattle.forms.specs.Fields.Fraction.{carried_fraction}
use Rattle.forms.specs.Fields.Offset.{is_offset, carried_offset}
use Rattle.forms.specs.Fields.Position.{carried_position}

-- what a form carries of a whole record
unfoldable pub carried_part : Carries → Record → Record
carried_part k r =
    record {
      hour = r.hour;
      minute = r.minute;
      second = r.second;
      date = carried_date k.date r.date;
      fraction = carried_fraction k.fraction r.fraction;
      channel = carried_channel k.channel r.channel;
      sync = carried_flag (is_carried k.sync) r.sync;
      fix = carried_flag (is_carried k.fix) r.fix;
      utc = carried_flag (is_carried k.utc) r.utc;
      summer = carried_flag (is_carried k.summer) r.summer;
      change = carried_flag (is_carried k.change) r.change;
      leap = carried_flag (is_carried k.leap) r.leap;
      offset = carried_offset (is_offset k.offset) r.offset;
      position = carried_position k.position r.position;
      dsp = carried_flag (is_carried k.dsp) r.dsp;
      lsp = carried_flag (is_carried k.lsp) r.lsp;
    }
