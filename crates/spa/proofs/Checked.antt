-- The sum taken over the bytes that the buffer holds in front of it is the string's own.
use Rattle.cond.proofs.Kit.{◌++◌, ◌≡◌, arith, drop, length, List, lit≤, refl, take, true, ℕ}
use Rattle.record.specs.declared.Record.{Record}
use Rattle.forms.specs.Checksum.{checksum_of}
use Rattle.forms.specs.Form.{bytes_by}
use Rattle.forms.specs.Forms.{form_kind_of}
use Rattle.forms.specs.Places.{Layout, bytes_of, layout_width}
use Rattle.forms.specs.Serial.{spa, spa_layout, spa_checksum}
use Rattle.forms.specs.Encode.{encode}
use Rattle.forms.proofs.Instances.{serial_sound}
use Rattle.forms.proofs.Layouts.{roomy_layout, sound_layout}
use Rattle.forms.proofs.Sound.{is_sound_form, sound_form}
use Rattle.forms.proofs.WriteRead.{written, written_roomy}
use Rattle.places.specs.Admitted.{Storable}
use Rattle.places.specs.Stores.{stores}
use Rattle.places.proofs.Stored.{stores_form}
use Rattle.places.proofs.Summed.{front_checksum, roomy_front}
use Rattle.spa.specs.Stored.{end_stored}

-- "all 29 bytes before it", and what stands behind them
abbrev front_layout : Layout
front_layout = take 15 spa_layout

abbrev end_layout : Layout
end_layout = drop 15 spa_layout

module _ (r : Record) (o : List ℕ) (p : Storable spa r (length o)) where
  sound : is_sound_form spa ≡ true
  unfolding form_kind_of
  sound = serial_sound 4 spa refl

  front_roomy : roomy_layout front_layout (encode r) ≡ true
  unfolding roomy_layout
  front_roomy = roomy_front front_layout end_layout (written spa r) (written_roomy spa (sound_form spa sound) r p.good p.expressible)

  same_checksum : checksum_of spa_checksum (stores front_layout 0 (encode r) o) ≡ checksum_of spa_checksum (bytes_of spa_layout (encode r))
  unfolding layout_width sound_layout
  same_checksum = front_checksum front_layout end_layout (encode r) o refl front_roomy (omega (arith, p.fits)) spa_checksum (lit≤ tt)

  pub end_stored_lem : end_stored (stores front_layout 0 (encode r) o) ≡ bytes_by spa (encode r) ++ drop 32 o
  unfolding stores
  end_stored_lem = rw same_checksum (stores_form spa sound r p.good p.expressible o p.fits)
