-- The stores are those of the layout, place by place.
use Rattle.cond.proofs.Kit.{refl}
use Rattle.forms.specs.Forms.{form_kind_of}
use Rattle.forms.specs.Serial.{racal}
use Rattle.forms.proofs.Instances.{serial_sound}
use Rattle.places.specs.Stores.{stores}
use Rattle.sized_form.proofs.Stored.{laid}
use Rattle.racal.proofs.RacalSizedForm.store.Goals as goal

pub returns : goal.returns
unfolding stores form_kind_of
returns c = laid racal c.args.told c.args.out.now _ (serial_sound 5 racal refl) c.requires
    (rw (c.put_byte.ensures, c.put_triple-2.ensures, c.put_triple.ensures, c.day_of.ensures, c.month_of.ensures, c.year_of.ensures, c.put_bytes.ensures))
