-- A Computime string tells date, time and the weekday alone.
use Rattle.cond.proofs.Kit.{refl}
use Rattle.forms.specs.Carries.{carries_of}
use Rattle.forms.specs.Places.{has, values}
use Rattle.forms.specs.Serial.{computime}
use Rattle.forms.proofs.Slots.{every}
use Rattle.places.proofs.Validated.{timed}
use Rattle.sized_form.proofs.Lean.{ranged_on}
use Rattle.computime.proofs.ComputimeSizedForm.is_in_range.Goals as goal

pub returns : goal.returns
unfolding has values every carries_of
returns c = ranged_on computime c.args.s.now refl c.args.told c.requires.decoded _ _ (timed computime c.args.s.now _ c.requires.decoded refl refl refl refl _ c.date_time_in_range.ensures)
    (rw c.number_at.ensures.0 at c.is_weekday.ensures) refl
