-- A record stored place by place in a form without a checksum.
use Rattle.cond.proofs.Kit.{◌++◌, ◌∙◌, ◌≡◌, drop, length, List, true, ℕ}
use Rattle.record.specs.declared.Record.{Record}
use Rattle.forms.specs.Encode.{encode}
use Rattle.forms.specs.Form.{Form, bytes_by}
use Rattle.forms.proofs.Sound.{is_sound_form}
use Rattle.forms.proofs.WriteRead.{written}
use Rattle.places.specs.Admitted.{Storable}
use Rattle.places.specs.Stores.{stores}
use Rattle.places.proofs.Stored.{stores_form}

pub laid : (d : Form) (r : Record) (o after : List ℕ) → is_sound_form d ≡ true → Storable d r (length o) → after ≡ stores d.layout 0 (written d r) o
    → after ≡ bytes_by d (encode r) ++ drop d.size o
laid d r o after t s q = q ∙ stores_form d t r s.good s.expressible o s.fits
