-- Beside its record an RMC string tells minutes of arc.
use Rattle.cond.proofs.Kit.{◌∙◌, ◌≡◌, and-true, List, refl, sym, ℕ}
use Rattle.forms.specs.Carries.{carries_of}
use Rattle.forms.specs.Fields.Position.{arc_in_range}
use Rattle.forms.specs.Form.{numbers_in_range, values_by}
use Rattle.forms.specs.Places.{has, values}
use Rattle.forms.specs.Serial.{rmc}
use Rattle.places.proofs.Validated.{both_ranged, sited}
use Rattle.sized_form.proofs.Beside.{ranged_beside}
use Rattle.rmc.proofs.RmcSizedForm.is_in_range.Goals as goal

arcs : (s : List ℕ) → numbers_in_range (values_by rmc s) ≡ arc_in_range (values_by rmc s)
unfolding numbers_in_range values
arcs s = and-true _

pub returns : goal.returns
unfolding carries_of has
returns c = let s = c.args.s.now in
    let r = c.args.told in
    let e = c.requires.decoded in
    ranged_beside rmc s r e refl _ _
    (both_ranged r _ _ c.date_time_in_range.ensures (sited rmc s r e refl refl _ _ c.fraction_in_range.ensures c.position_in_range.ensures))
    (c.arcs_in_range.ensures ∙ sym (arcs s))
