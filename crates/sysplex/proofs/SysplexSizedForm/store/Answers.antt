-- The stores are those of the layout, place by place; a record that is stored has a day of the year.
use Rattle.cond.proofs.Kit.{◌∙◌, refl}
use Rattle.forms.specs.Forms.{form_kind_of}
use Rattle.forms.specs.Serial.{sysplex}
use Rattle.forms.proofs.Instances.{serial_sound}
use Rattle.places.specs.Stores.{stores}
use Rattle.places.proofs.Weekday.{stored_ordinal}
use Rattle.sized_form.proofs.Stored.{laid}
use Rattle.sysplex.proofs.SysplexSizedForm.store.Goals as goal

pub returns : goal.returns
unfolding stores form_kind_of
returns c = laid sysplex c.args.told c.args.out.now _ (serial_sound 6 sysplex refl) c.requires
    (rw (c.put_bytes.ensures, c.put_flag.ensures, c.put_pairs.ensures, c.put_byte-2.ensures, c.put_digits.ensures, c.put_byte.ensures, c.ordinal_of.ensures ∙ stored_ordinal sysplex _ _ c.requires))
