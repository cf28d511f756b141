-- A Capture string tells nothing twice.
use Rattle.cond.proofs.Kit.{refl}
use Rattle.forms.specs.Places.{has}
use Rattle.forms.specs.Serial.{capture}
use Rattle.forms.proofs.Slots.{every}
use Rattle.sized_form.proofs.Lean.{agreed}
use Rattle.capture.proofs.CaptureSizedForm.agrees.Goals as goal

pub returns : goal.returns
unfolding has every
returns c = agreed capture c.args._s.now refl c.args._told c.requires.decoded refl
