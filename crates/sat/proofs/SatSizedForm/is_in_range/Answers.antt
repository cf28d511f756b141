-- A SAT string tells date, time and weekday alone.
use Rattle.cond.proofs.Kit.{◌∙◌, ap, refl, true}
use Rattle.forms.specs.Carries.{carries_of}
use Rattle.forms.specs.Fields.Date.{weekday_in_range}
use Rattle.forms.specs.Places.{has, values}
use Rattle.forms.specs.Serial.{sat}
use Rattle.forms.proofs.Slots.{every}
use Rattle.places.proofs.Validated.{timed}
use Rattle.sized_form.proofs.Lean.{ranged_on}
use Rattle.sat.proofs.SatSizedForm.is_in_range.Goals as goal

pub returns : goal.returns
unfolding has every carries_of values
returns c =
    ranged_on sat c.args.s.now refl c.args.told c.requires.decoded _ _
    (timed sat c.args.s.now _ c.requires.decoded refl refl refl refl _ c.date_time_in_range.ensures)
    (c.is_weekday.ensures ∙ ap (weekday_in_range true) c.number_at.ensures.0) refl
