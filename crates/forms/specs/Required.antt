-- What a writer asks of a record.
use Rattle.std.specs.Prelude.{Bool, ◌∷◌, [], List}
use Rattle.record.specs.declared.Record.{Record}
use Rattle.forms.specs.All.{all}
use Rattle.forms.specs.Carries.{Carries}
use Rattle.forms.specs.Fields.Channel.{has_channel}
use Rattle.forms.specs.Fields.Date.{has_date}
use Rattle.forms.specs.Fields.Flag.{has_flag, is_carried}
use Rattle.forms.specs.Fields.Fraction.{has_fraction}
use Rattle.forms.specs.Fields.Offset.{has_offset, is_offset}
use Rattle.forms.specs.Fields.Position.{has_position}

-- a carried field is there and of its kind, for each field
abbrev pub carried_tests : Carries → Record → List Bool
carried_tests k r =
    has_date k.date r.date
    ∷ has_fraction k.fraction r.fraction
    ∷ has_channel k.channel r.channel
    ∷ has_flag (is_carried k.sync) r.sync
    ∷ has_flag (is_carried k.fix) r.fix
    ∷ has_flag (is_carried k.utc) r.utc
    ∷ has_flag (is_carried k.summer) r.summer
    ∷ has_flag (is_carried k.change) r.change
    ∷ has_flag (is_carried k.leap) r.leap
    ∷ has_offset (is_offset k.offset) r.offset
    ∷ has_position k.position r.position
    ∷ has_flag (is_carried k.dsp) r.dsp
    ∷ has_flag (is_carried k.lsp) r.lsp
    ∷ []

-- every carried field is there and of its kind
unfoldable pub has_carried : Carries → Record → Bool
has_carried k r = all (carried_tests k r)
