-- Beside its record a Uni Erlangen string tells the weekday and the minutes of the offset; it has no TFOM and no deleted second.
use Rattle.cond.proofs.Kit.{◌∙◌, ◌≡◌, and-true, ap, List, ltb, refl, sym, true, ℕ}
use Rattle.forms.specs.Carries.{carries_of}
use Rattle.forms.specs.Fields.Date.{weekday_in_range}
use Rattle.forms.specs.Form.{numbers_in_range, values_by}
use Rattle.forms.specs.Places.{has, values}
use Rattle.forms.specs.Serial.{erlangen}
use Rattle.forms.specs.Slots.{offset_minutes}
use Rattle.places.proofs.Validated.{both_ranged, located}
use Rattle.sized_form.proofs.Beside.{ranged_beside_on}
use Rattle.erlangen.proofs.ErlangenSizedForm.is_in_range.Goals as goal

minutes : (s : List ℕ) → numbers_in_range (values_by erlangen s) ≡ ltb (values_by erlangen s offset_minutes) 60
unfolding numbers_in_range values
minutes s = and-true _

pub returns : goal.returns
unfolding carries_of has values
returns c = let s = c.args.s.now in
    let r = c.args.told in
    let e = c.requires.decoded in
    ranged_beside_on erlangen s r e refl _ _ _
    (both_ranged r _ _ c.date_time_in_range.ensures (located erlangen s r e refl refl _ _ c.offset_in_range.ensures c.position_in_range.ensures))
    (c.is_weekday.ensures ∙ ap (λ n. weekday_in_range true n) c.number_at-weekday.ensures.0)
    (ap (λ (n : ℕ). ltb n 60) c.number_at-minutes.ensures.0 ∙ sym (minutes s))
