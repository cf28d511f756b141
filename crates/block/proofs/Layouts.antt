-- What the lines of a record's block come to: each flag's line, the whole layout, and the bytes of the form.
use Rattle.std.specs.Prelude.{Option, None, Some, Bool, false}
use Rattle.cond.proofs.Kit.{[], ◌++◌, ◌+◌, ◌∙◌, ◌≡◌, ◌≤◌, ap, append_assoc, arith, drop, get_or, le-leb, length, List, refl, sets-eq, String, sym, take, take_at, true, ℕ}
use Rattle.spelling.specs.Bytes.{text}
use Rattle.spelling.specs.Stored.{stored}
use Rattle.spelling.proofs.Stored.{stored_in}
use Rattle.record.specs.declared.Record.{Record}
use Rattle.record.specs.Record.{is_good}
use Rattle.forms.specs.Block.{block_of, choices, chosen_layout, first_edition, flag_line}
use Rattle.forms.specs.Fields.Flag.{flag_choice}
use Rattle.forms.specs.Form.{bytes_by, carries, is_expressible}
use Rattle.forms.specs.Required.{has_carried}
use Rattle.forms.specs.Places.{bytes_of, layout_width}
use Rattle.forms.specs.Slots.{Slot, Values}
use Rattle.forms.specs.Encode.{encode}
use Rattle.forms.proofs.Block.{block_length, block_size}
use Rattle.forms.proofs.FirstEdition.{first_sound}
use Rattle.forms.proofs.BlockRecord.{own_choice, own_complete, own_has_words}
use Rattle.forms.proofs.BlockLayout.{block_sound}
use Rattle.forms.proofs.Sound.{SoundForm}
use Rattle.forms.proofs.WriteRead.{written, written_roomy}
use Rattle.places.specs.Stores.{stores}
use Rattle.places.proofs.Stored.{stores_laid}
use Rattle.block_lines.specs.Reading.{word_layout}
use Rattle.block_lines.specs.Stores.{Laid, flag_text}
use Rattle.block.specs.Lines.{Put, lines_of}
use Rattle.block.proofs.Lent.{stores_same}

-- the line of a yes or no field
module _ (key : String) (f : Slot) where
  -- its word is stored as fixed bytes are
  pub flag_laid : (x : Option Bool) (v : Values) (n : ℕ) (o a : List ℕ) → Laid (word_layout (text key) (flag_text x)) v n o a → Laid (get_or (flag_line key f) (flag_choice x) []) v n o a
  unfolding stores layout_width
  flag_laid None v n o a h = h
  flag_laid (Some false) v n o a h = h
  flag_laid (Some true) v n o a h = h

module _ (r : Record) where
  -- the values that the form writes are the record's: it has no sum
  no_checksum : (f : Slot) → encode r f ≡ written (block_of first_edition r) r f
  unfolding block_of
  no_checksum f = refl

  own_sound : SoundForm (block_of first_edition r)
  unfolding block_of
  own_sound = block_sound (choices r) (own_choice r)

  -- "form 9 never" asks for a field, and it has a word for every record
  pub block_complete : has_carried (carries (block_of first_edition r)) r ≡ true
  unfolding block_of
  block_complete = own_complete r

  pub block_has_words : is_good r ≡ true → is_expressible (block_of first_edition r).layout (encode r) ≡ true
  unfolding block_of
  block_has_words g = own_has_words r g

  pub block_stored : is_good r ≡ true → (o : List ℕ) → (block_of first_edition r).size ≤ length o
      → stores (block_of first_edition r).layout 0 (encode r) o ≡ bytes_by (block_of first_edition r) (encode r) ++ drop (block_of first_edition r).size o
  unfolding bytes_by
  block_stored g o h =
      let e = own_sound.sized in
      let q : 0 + layout_width (block_of first_edition r).layout ≡ (block_of first_edition r).size = omega arith in
      stores_same (block_of first_edition r).layout 0 (encode r) (written (block_of first_edition r) r) o no_checksum
      ∙ stores_laid (block_of first_edition r).layout 0 (written (block_of first_edition r) r) o own_sound.layout_sound (written_roomy (block_of first_edition r) own_sound r g (block_has_words g)) (omega arith)
      ∙ ap (λ (n : ℕ). bytes_of (block_of first_edition r).layout (written (block_of first_edition r) r) ++ drop n o) q

  -- the three parts that the writer stores
  pub whole_block : (lines_of r 0 5 ++ lines_of r 5 5) ++ lines_of r 10 4 ≡ (block_of first_edition r).layout
  unfolding block_of chosen_layout
  whole_block = simp append_assoc

  -- what `put` leaves of a good record where there is room
  module _ (g : is_good r ≡ true) {n : ℕ} {o a : List ℕ} (room : 175 ≤ length o) (h : Put r n o a) where
    pub put_size : n ≡ (block_of first_edition r).size
    put_size = h.size ∙ simp (le-leb 175 (length o) room)

    pub put_left : a ≡ bytes_by (block_of first_edition r) (encode r) ++ drop n o
    put_left = h.left ∙ simp (le-leb 175 (length o) room) (rw put_size (block_stored g o (omega (arith, block_size first_edition first_sound r g))))

    -- its bytes stored at the head of another buffer
    pub put_copied : (x : List ℕ) → (block_of first_edition r).size ≤ length x
        → stored x 0 (take n a) ≡ bytes_by (block_of first_edition r) (encode r) ++ drop (block_of first_edition r).size x
    put_copied x l =
        let bytes = bytes_by (block_of first_edition r) (encode r) in
        let long = block_length first_edition first_sound r g in
        let z : 0 + length bytes ≡ (block_of first_edition r).size = omega (arith, long) in
        rw (put_left, take_at bytes (drop n o) n (long ∙ sym put_size)) (stored_in x 0 bytes (omega arith) ∙ sets-eq bytes x 0 (omega arith) ∙ rw z)
