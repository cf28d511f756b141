-- An RMC string tells the sign of a zero, and no weekday.
use Rattle.cond.proofs.Kit.{◌∙◌, ◌≡◌, and-true, List, refl, sym, ℕ}
use Rattle.record.specs.Record.{zone_agrees}
use Rattle.forms.specs.Carries.{carries_of}
use Rattle.forms.specs.Decode.{decode_flag, decode_minutes}
use Rattle.forms.specs.Fields.Position.{minutes, position_consistent}
use Rattle.forms.specs.Fields.Sign.{sign_consistent}
use Rattle.forms.specs.Fields.Time.{leap_consistent, seconds_consistent}
use Rattle.forms.specs.Form.{signs_consistent, values_by}
use Rattle.forms.specs.Places.{has, values}
use Rattle.forms.specs.Serial.{rmc}
use Rattle.places.proofs.Validated.{rest_consistent}
use Rattle.sized_form.proofs.Beside.{agreed_beside}
use Rattle.rmc.proofs.RmcSizedForm.agrees.Goals as goal

signs : (s : List ℕ) → rest_consistent rmc s ≡ position_consistent minutes (values_by rmc s)
unfolding carries_of has values leap_consistent seconds_consistent signs_consistent sign_consistent decode_minutes zone_agrees decode_flag
signs s = and-true _

pub returns : goal.returns
unfolding has
returns c = agreed_beside rmc c.args.s.now refl _ (c.signs_agree.ensures ∙ sym (signs c.args.s.now))
