-- A Computime string tells the weekday of its date besides.
use Rattle.cond.proofs.Kit.{refl}
use Rattle.forms.specs.Places.{has, values}
use Rattle.forms.specs.Serial.{computime}
use Rattle.forms.proofs.Slots.{every}
use Rattle.sized_form.proofs.Lean.{agreed_on}
use Rattle.computime.proofs.ComputimeSizedForm.agrees.Goals as goal

pub returns : goal.returns
unfolding has values every
returns c =
    rw (c.falls_on.ensures, c.number_at.ensures.0)
    (agreed_on computime c.args.s.now refl c.args.told c.requires.decoded refl refl c.requires.ranged)
