-- The stores are those of the layout, place by place; a record that is stored has a weekday.
use Rattle.cond.proofs.Kit.{◌∙◌, refl}
use Rattle.forms.specs.Carries.{carries_of}
use Rattle.forms.specs.Forms.{form_kind_of}
use Rattle.forms.specs.Places.{has}
use Rattle.forms.specs.Serial.{computime}
use Rattle.forms.proofs.Instances.{serial_sound}
use Rattle.places.specs.Stores.{stores}
use Rattle.places.proofs.Weekday.{stored_weekday}
use Rattle.sized_form.proofs.Stored.{laid}
use Rattle.computime.proofs.ComputimeSizedForm.store.Goals as goal

pub returns : goal.returns
unfolding stores form_kind_of carries_of has
returns c = laid computime c.args.told c.args.out.now _ (serial_sound 7 computime refl) c.requires
    (rw (c.put_bytes-2.ensures, c.put_pairs-2.ensures, c.put_byte-2.ensures, c.put_digits.ensures, c.weekday_of.ensures ∙ stored_weekday computime _ _ c.requires refl)
    (rw (c.put_byte.ensures, c.put_pairs.ensures, c.day_of.ensures, c.month_of.ensures, c.year_of.ensures, c.put_bytes.ensures)))
