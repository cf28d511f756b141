-- A record that has all that a form carries has each field.
use Rattle.cond.proofs.Kit.{◌≡◌, true}
use Rattle.record.specs.declared.Record.{Record}
use Rattle.forms.specs.Carries.{Carries}
use Rattle.forms.specs.Fields.Channel.{has_channel}
use Rattle.forms.specs.Fields.Date.{has_date}
use Rattle.forms.specs.Fields.Flag.{has_flag, is_carried}
use Rattle.forms.specs.Fields.Fraction.{has_fraction}
use Rattle.forms.specs.Fields.Offset.{has_offset, is_offset}
use Rattle.forms.specs.Fields.Position.{has_position}
use Rattle.forms.specs.Required.{carried_tests, has_carried}
use Rattle.forms.proofs.All.{test_at}

pub record All (k : Carries) (r : Record) : Type 0 where
  pub date : has_date k.date r.date ≡ true
  pub fraction : has_fraction k.fraction r.fraction ≡ true
  pub channel : has_channel k.channel r.channel ≡ true
  pub sync : has_flag (is_carried k.sync) r.sync ≡ true
  pub fix : has_flag (is_carried k.fix) r.fix ≡ true
  pub utc : has_flag (is_carried k.utc) r.utc ≡ true
  pub summer : has_flag (is_carried k.summer) r.summer ≡ true
  pub change : has_flag (is_carried k.change) r.change ≡ true
  pub leap : has_flag (is_carried k.leap) r.leap ≡ true
  pub offset : has_offset (is_offset k.offset) r.offset ≡ true
  pub position : has_position k.position r.position ≡ true
  pub dsp : has_flag (is_carried k.dsp) r.dsp ≡ true
  pub lsp : has_flag (is_carried k.lsp) r.lsp ≡ true

pub all_of : (k : Carries) (r : Record) → has_carried k r ≡ true → All k r
unfolding has_carried
all_of k r h =
    let at = test_at (carried_tests k r) h in
    record {
      date = at 0;
      fraction = at 1;
      channel = at 2;
      sync = at 3;
      fix = at 4;
      utc = at 5;
      summer = at 6;
      change = at 7;
      leap = at 8;
      offset = at 9;
      position = at 10;
      dsp = at 11;
      lsp = at 12;
    }
