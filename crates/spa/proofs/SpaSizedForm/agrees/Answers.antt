-- An SPA string tells nothing twice.
use Rattle.cond.proofs.Kit.{refl}
use Rattle.forms.specs.Places.{has}
use Rattle.forms.specs.Serial.{spa}
use Rattle.forms.proofs.Slots.{every}
use Rattle.sized_form.proofs.Lean.{agreed}
use Rattle.spa.proofs.SpaSizedForm.agrees.Goals as goal

pub returns : goal.returns
unfolding has every
returns c = agreed spa c.args._s.now refl c.args._told c.requires.decoded refl
