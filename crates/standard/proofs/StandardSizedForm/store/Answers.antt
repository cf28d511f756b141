-- The layout's pieces follow one another; a record that is stored has a weekday.
use Rattle.cond.proofs.Kit.{◌∙◌, refl}
use Rattle.forms.specs.Carries.{carries_of}
use Rattle.forms.specs.Forms.{form_kind_of}
use Rattle.forms.specs.Places.{has}
use Rattle.forms.specs.Serial.{standard}
use Rattle.forms.proofs.Instances.{serial_sound}
use Rattle.places.specs.Stores.{stores}
use Rattle.places.proofs.Weekday.{stored_weekday}
use Rattle.sized_form.proofs.Stored.{laid}
use Rattle.standard.proofs.StandardSizedForm.store.Goals as goal

pub store_date-requires : goal.store_date-requires
unfolding carries_of has stores
store_date-requires c = c.weekday_of.ensures ∙ stored_weekday standard _ _ c.requires refl

pub returns : goal.returns
unfolding carries_of has stores form_kind_of
returns c = laid standard c.args.told c.args.out.now _ (serial_sound 1 standard refl) c.requires cc
