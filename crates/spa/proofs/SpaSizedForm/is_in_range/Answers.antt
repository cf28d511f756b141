-- An SPA string tells date, time and thousandths alone.
use Rattle.cond.proofs.Kit.{refl}
use Rattle.forms.specs.Carries.{carries_of}
use Rattle.forms.specs.Places.{has}
use Rattle.forms.specs.Serial.{spa}
use Rattle.forms.proofs.Slots.{every}
use Rattle.places.proofs.Validated.{both_ranged, divided}
use Rattle.sized_form.proofs.Lean.{ranged}
use Rattle.spa.proofs.SpaSizedForm.is_in_range.Goals as goal

pub returns : goal.returns
unfolding has every carries_of
returns c =
    ranged spa c.args._s.now refl c.args.told c.requires.decoded _
    (both_ranged _ _ _ c.date_time_in_range.ensures (divided spa _ _ c.requires.decoded refl refl refl _ c.fraction_in_range.ensures)) refl
