-- The layout's pieces follow one another; a record that is stored has a weekday.
use Rattle.cond.proofs.Kit.{◌∙◌, refl}
use Rattle.forms.specs.Carries.{carries_of}
use Rattle.forms.specs.Forms.{form_kind_of}
use Rattle.forms.specs.Places.{has}
use Rattle.forms.specs.Serial.{sat}
use Rattle.forms.proofs.Instances.{serial_sound}
use Rattle.places.specs.Stores.{stores}
use Rattle.places.proofs.Weekday.{stored_weekday}
use Rattle.sized_form.proofs.Stored.{laid}
use Rattle.sat.proofs.SatSizedForm.store.Goals as goal

pub store_time-requires : goal.store_time-requires
unfolding carries_of has stores
store_time-requires c = c.weekday_of.ensures ∙ stored_weekday sat _ _ c.requires refl

pub returns : goal.returns
unfolding carries_of has stores form_kind_of
returns c = laid sat c.args.told c.args.out.now _ (serial_sound 10 sat refl) c.requires
    (rw (c.put_bytes.ensures, c.put_flag-2.ensures, c.put_flag.ensures, c.store_zone.ensures, c.store_time.ensures))
