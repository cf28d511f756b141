-- A Capture string tells date, time, fraction and channel alone.
use Rattle.cond.proofs.Kit.{refl}
use Rattle.forms.specs.Carries.{carries_of}
use Rattle.forms.specs.Places.{has}
use Rattle.forms.specs.Serial.{capture}
use Rattle.forms.proofs.Slots.{every}
use Rattle.places.proofs.Validated.{both_ranged, captured}
use Rattle.sized_form.proofs.Lean.{ranged}
use Rattle.capture.proofs.CaptureSizedForm.is_in_range.Goals as goal

pub returns : goal.returns
unfolding has every carries_of
returns c = ranged capture c.args._s.now refl c.args.told c.requires.decoded _
    (both_ranged _ _ _ c.date_time_in_range.ensures
    (captured capture c.args._s.now _ c.requires.decoded refl refl _ _ c.fraction_in_range.ensures c.channel_in_range.ensures)) refl
