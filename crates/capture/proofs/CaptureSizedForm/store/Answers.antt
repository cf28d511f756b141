-- The stores are those of the layout, place by place.
use Rattle.cond.proofs.Kit.{refl}
use Rattle.forms.specs.Forms.{form_kind_of}
use Rattle.forms.specs.Serial.{capture}
use Rattle.forms.proofs.Instances.{serial_sound}
use Rattle.places.specs.Stores.{stores}
use Rattle.sized_form.proofs.Stored.{laid}
use Rattle.capture.proofs.CaptureSizedForm.store.Goals as goal

pub returns : goal.returns
unfolding stores form_kind_of
returns c = laid capture c.args.told c.args.out.now _ (serial_sound 2 capture refl) c.requires
    (rw (c.put_bytes-2.ensures, c.put_digits-2.ensures, c.ten_millionths_of.ensures, c.put_byte-3.ensures, c.put_pairs-2.ensures, c.put_byte-2.ensures)
    (rw (c.put_pairs.ensures, c.year_of.ensures, c.month_of.ensures, c.day_of.ensures, c.put_byte.ensures, c.put_digits.ensures, c.channel_of.ensures, c.put_bytes.ensures)))
