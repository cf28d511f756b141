-- The layout carries a full date and six fields that are yes or no.
use Rattle.cond.proofs.Kit.{[], ◌∷◌, true}
use Rattle.forms.specs.Carries.{carries_of}
use Rattle.forms.specs.Fields.Date.{full_date, has_date}
use Rattle.forms.specs.Fields.Flag.{has_flag}
use Rattle.forms.specs.Required.{has_carried}
use Rattle.forms.specs.Places.{has}
use Rattle.places.proofs.Chain.{flat}
use Rattle.standard.proofs.StandardSizedForm.has_carried.Goals as goal

pub returns : goal.returns
unfolding has_carried carries_of has
returns c = let r = c.args.told in
    simp (c.has_full_date.ensures, c.has_flag.ensures, c.has_flag-2.ensures)
    (simp (c.has_flag-3.ensures, c.has_flag-4.ensures, c.has_flag-5.ensures, c.has_flag-6.ensures)
    (flat (has_date full_date r.date) (has_flag true r.sync ∷ has_flag true r.fix ∷ has_flag true r.utc ∷ has_flag true r.summer ∷ has_flag true r.change ∷ has_flag true r.leap ∷ [])))
