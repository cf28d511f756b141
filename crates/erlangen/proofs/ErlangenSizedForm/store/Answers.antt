-- The layout is stored in its pieces; a record that is stored has a weekday.
use Rattle.cond.proofs.Kit.{◌∙◌, refl}
use Rattle.forms.specs.Carries.{carries_of}
use Rattle.forms.specs.Encode.{encode}
use Rattle.forms.specs.Forms.{form_kind_of}
use Rattle.forms.specs.Places.{has}
use Rattle.forms.specs.Serial.{erlangen}
use Rattle.forms.proofs.Instances.{serial_sound}
use Rattle.places.proofs.Weekday.{stored_weekday}
use Rattle.sized_form.proofs.Stored.{laid}
use Rattle.erlangen.proofs.Pieces.{stores_pieces}
use Rattle.erlangen.proofs.ErlangenSizedForm.store.Goals as goal

pub store_date-requires : goal.store_date-requires
unfolding carries_of has
store_date-requires c = c.weekday_of.ensures ∙ stored_weekday erlangen _ _ c.requires refl

pub returns : goal.returns
unfolding form_kind_of
returns c = laid erlangen c.args.told c.args.out.now _ (serial_sound 3 erlangen refl) c.requires
    (cc (stores_pieces (encode c.args.told) c.args.out.now))
