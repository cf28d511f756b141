-- The layout carries a full date and thousandths.
use Rattle.cond.proofs.Kit.{[], ◌∷◌}
use Rattle.forms.specs.Carries.{carries_of}
use Rattle.forms.specs.Fields.Date.{full_date, has_date}
use Rattle.forms.specs.Fields.Fraction.{has_fraction, thousandths}
use Rattle.forms.specs.Required.{has_carried}
use Rattle.forms.specs.Places.{has}
use Rattle.places.proofs.Chain.{flat}
use Rattle.spa.proofs.SpaSizedForm.has_carried.Goals as goal

pub returns : goal.returns
unfolding has_carried carries_of has
returns c = let r = c.args.told in
    simp (c.has_full_date.ensures, c.has_thousandths.ensures)
    (flat (has_date full_date r.date) (has_fraction thousandths r.fraction ∷ []))
