-- A Uni Erlangen string tells the weekday, `L` and the signs of zeros beside its record.
use Rattle.cond.proofs.Kit.{◌&&◌, ◌≡◌, and-true, List, refl, sym, true, ℕ}
use Rattle.record.specs.Record.{zone_agrees}
use Rattle.forms.specs.Carries.{carries_of}
use Rattle.forms.specs.Fields.Flag.{decode_flag}
use Rattle.forms.specs.Fields.Offset.{in_minutes}
use Rattle.forms.specs.Fields.Position.{degrees}
use Rattle.forms.specs.Fields.Time.{leap_consistent, seconds_consistent}
use Rattle.forms.specs.Form.{signs_consistent, values_by}
use Rattle.forms.specs.Places.{has, values}
use Rattle.forms.specs.Serial.{erlangen}
use Rattle.places.proofs.Validated.{rest_consistent}
use Rattle.sized_form.proofs.Beside.{agreed_beside_on}
use Rattle.erlangen.proofs.ErlangenSizedForm.agrees.Goals as goal

beside : (s : List ℕ) → rest_consistent erlangen s ≡ (leap_consistent true (values_by erlangen s) && signs_consistent in_minutes degrees (values_by erlangen s))
unfolding carries_of has seconds_consistent zone_agrees decode_flag
beside s = simp and-true

pub returns : goal.returns
unfolding has values
returns c = let s = c.args.s.now in
    simp (c.falls_on.ensures, c.number_at.ensures.0)
    (agreed_beside_on erlangen s c.args.told c.requires.decoded refl refl c.requires.ranged _ (simp (c.leap_agrees.ensures, c.signs_agree.ensures) (sym (beside s))))
