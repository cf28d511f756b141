-- A SAT string tells the weekday besides the date.
use Rattle.cond.proofs.Kit.{◌∙◌, ap, refl}
use Rattle.forms.specs.Places.{has, values}
use Rattle.forms.specs.Serial.{sat}
use Rattle.forms.proofs.Slots.{every}
use Rattle.places.specs.Weekday.{falls_on}
use Rattle.sized_form.proofs.Lean.{agreed_on}
use Rattle.sat.proofs.SatSizedForm.agrees.Goals as goal

pub returns : goal.returns
unfolding has every values
returns c =
    c.falls_on.ensures ∙ ap (falls_on c.args.told.date) c.number_at.ensures.0
    ∙ agreed_on sat c.args.s.now refl c.args.told c.requires.decoded refl refl c.requires.ranged
