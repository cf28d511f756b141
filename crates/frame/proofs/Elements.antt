-- The ten rows are the frame's bytes, element by element, and each is stored behind those before it.
use Rattle.spelling.specs.Stored.{stored}
use Rattle.cond.proofs.Kit.{[], ◌%◌, ◌*◌, ◌++◌, ◌+◌, ◌<◌, ◌∙◌, ◌∷◌, ◌≡◌, ap, append_assoc, append-nil, arith, drop, get_or, length, length-append, List, ltb-true, refl, sets, suc, suc-add, sym, take, true, zero, ℕ}
use Rattle.spelling.specs.Bytes.{bits_of, groups_of, ones}
use Rattle.spelling.proofs.Stores
use Rattle.forms.specs.Checksum.{with_checksum}
use Rattle.forms.specs.Fields.Offset.{encode_minus, sign_slot, told_by}
use Rattle.forms.specs.Form.{bytes_by, is_expressible}
use Rattle.forms.specs.Frame.{frame, frame_layout}
use Rattle.forms.specs.Places.{bytes_of}
use Rattle.forms.specs.Slots.{Slot, Values, checksum, deletion, half_hour, same}
use Rattle.forms.specs.Encode.{encode}
use Rattle.record.specs.declared.Record.{Record}
use Rattle.record.specs.declared.sign.SignRule.{SignRule}
use Rattle.cond.proofs.Tests.{either_way}
use Rattle.forms.proofs.Fields.Offset.{encode_sign}
use Rattle.forms.proofs.Frames.{frame_has_words, sign_stays}
use Rattle.forms.proofs.LayoutLimits.{layout_alike}
use Rattle.forms.proofs.Slots.{same_slot}
use Rattle.frame.specs.Tens.{joined, ten_rows}

-- rows one behind the other

joined_next : (f : List (List ℕ)) (i : ℕ) → i < length f → joined (take (i + 1) f) ≡ joined (take i f) ++ get_or f i []
unfolding joined
joined_next [] i h = absurd (omega arith)
joined_next (x ∷ f) zero h = append-nil x
joined_next (x ∷ f) (suc i) h = rw (suc-add, append_assoc) (ap (λ (l : List ℕ). x ++ l) (joined_next f i (omega arith)))

module _ (f : List (List ℕ)) (i : ℕ) (inside : i < length f) (long : length (joined (take i f)) ≡ i * 10) where
  pub next_length : length (get_or f i []) ≡ 10 → length (joined (take (i + 1) f)) ≡ (i + 1) * 10
  next_length h = rw (joined_next f i inside, length-append) (omega arith)

  pub next_stored : (o : List ℕ) → sets (sets o 0 (joined (take i f))) (i * 10) (get_or f i []) ≡ sets o 0 (joined (take (i + 1) f))
  next_stored o =
      let e : i * 10 ≡ 0 + length (joined (take i f)) = omega arith in
      rw (e, joined_next f i inside) (sym (Stores.sets_append (joined (take i f)) (get_or f i []) o 0))

-- the rows of the frame

half_word : (n : ℕ) → n < 2 → get_or ((0 ∷ []) ∷ (1 ∷ []) ∷ []) n [] ≡ bits_of 1 n
unfolding bits_of
half_word zero h = refl
half_word (suc zero) h = refl
half_word (suc (suc n)) h = absurd (omega arith)

rows_bytes : (x : SignRule) (v : Values) → v half_hour < 2 → v deletion ≡ 0 → joined (ten_rows (v (sign_slot x)) v) ≡ bytes_of (frame_layout x) v
unfolding joined ten_rows stored bytes_of groups_of bits_of
rows_bytes x v h d = simp (half_word (v half_hour) h, d)

-- the parity stands behind the elements that it is taken over
rows_front : (sign : ℕ) (v : Values) (o : List ℕ) → take 74 (drop 1 (joined (ten_rows sign v) ++ o)) ≡ take 74 (drop 1 (joined (ten_rows sign v)))
unfolding joined ten_rows stored bits_of
rows_front sign v o = refl

-- a record tells no checksum
no_checksum : (r : Record) (f : Slot) → with_checksum (encode r) 0 f ≡ encode r f
no_checksum r f = either_way (same f checksum) (λ e. simp e (sym (ap (encode r) (same_slot f checksum e)))) (λ e. simp e)

-- the rows of a record's frame, with its sign and any parity
signed_rows : (x : SignRule) (r : Record) (n p : ℕ) → encode r half_hour < 2 → n ≡ encode_minus (told_by x r.offset)
    → joined (ten_rows n (with_checksum (encode r) p)) ≡ bytes_of (frame_layout x) (with_checksum (encode r) p)
signed_rows x r n p l s =
    ap (λ (m : ℕ). joined (ten_rows m (with_checksum (encode r) p))) (s ∙ sym (sign_stays x (encode r) p ∙ encode_sign x r)) ∙ rows_bytes x (with_checksum (encode r) p) l refl

-- the rows with the parity of the rows without one
pub rows_frame : (x : SignRule) (r : Record) (n p : ℕ) (o : List ℕ) → n ≡ encode_minus (told_by x r.offset) → is_expressible (frame x).layout (encode r) ≡ true
    → p ≡ ones (take 74 (drop 1 (joined (ten_rows n (with_checksum (encode r) 0)) ++ o))) % 2
    → joined (ten_rows n (with_checksum (encode r) p)) ≡ bytes_by (frame x) (encode r)
unfolding bytes_by bytes_of
rows_frame x r n p o s h e =
    let v : Values = encode r in
    let l = ltb-true (v half_hour) 2 (sym (frame_has_words x r) ∙ h) in
    let b = signed_rows x r n 0 l s ∙ layout_alike (frame_layout x) (with_checksum v 0) v (λ f _. no_checksum r f) in
    let m = ap ones (rows_front n (with_checksum v 0) o ∙ ap (λ (l : List ℕ). take 74 (drop 1 l)) b) in
    signed_rows x r n p l s ∙ ap (λ (y : ℕ). bytes_of (frame_layout x) (with_checksum v y)) (e ∙ ap (λ (y : ℕ). y % 2) m)
