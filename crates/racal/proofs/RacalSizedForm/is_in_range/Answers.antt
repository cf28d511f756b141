-- A RACAL string tells date and time alone.
use Rattle.cond.proofs.Kit.{refl}
use Rattle.forms.specs.Carries.{carries_of}
use Rattle.forms.specs.Places.{has}
use Rattle.forms.specs.Serial.{racal}
use Rattle.forms.proofs.Slots.{every}
use Rattle.places.proofs.Validated.{timed}
use Rattle.sized_form.proofs.Lean.{ranged}
use Rattle.racal.proofs.RacalSizedForm.is_in_range.Goals as goal

pub returns : goal.returns
unfolding has every carries_of
returns c = ranged racal c.args._s.now refl c.args.told c.requires.decoded _ (timed racal c.args._s.now _ c.requires.decoded refl refl refl refl _ c.date_time_in_range.ensures) refl
