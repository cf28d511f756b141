-- The first edition of the block shows what demand 2 asks of an edition.
use mathlib.Core.Path.{refl}
use Rattle.forms.specs.Block.{first_edition}
use Rattle.forms.specs.Places.{layout_width}
use Rattle.forms.proofs.Block.{SoundEdition}
use Rattle.forms.proofs.BlockRecord.{own_choice, own_choices, own_complete, own_part, own_size, own_has_words}
use Rattle.forms.proofs.BlockLayout.{block_sound}
use Rattle.forms.proofs.Clash.{admitted_at, clash_below, lettered}
use Rattle.forms.specs.Encode.{encode}
use Rattle.forms.proofs.Variants.{clashes_with, is_distinct}
use Rattle.forms.proofs.Lines.{every_line}
use Rattle.forms.proofs.Roomy.{expressible_has_words}

pub first_sound : SoundEdition first_edition
unfolding every_line is_distinct clashes_with clash_below admitted_at lettered layout_width
first_sound =
    record {
      sound = block_sound;
      distinct = refl;
      filled = refl;
      chosen = own_choice;
      taken = own_complete;
      whole = own_part;
      expressed = own_has_words;
      bounded = own_size;
      own = λ cs o r w. own_choices cs o r (expressible_has_words _ (encode r) w);
    }
