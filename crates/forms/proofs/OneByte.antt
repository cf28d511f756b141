-- One byte replaced by another is refused: over any sound form whose sum runs over all that it tells and stands behind that.
use Rattle.std.specs.Prelude.{Ok}
use lib.Seq.{drop-set-add}
use Rattle.cond.proofs.Kit.{[], ◌&&◌, ◌+◌, ◌-◌, ◌<◌, ◌∙◌, ◌∷◌, ◌≡◌, ◌≤◌, ◌⊎◌, ap, arith, Bool, drop, drop-set-lt, eqb-true, false, get_or, get_or-drop, get_or-set_same, get_or-take, inl, inr, leb, leb-true, length, length-drop, length-set, length-take-le, List, ltb, ltb-false, ltb-true, refl, set, subst, sym, take, take-set-le, take-set-lt, true, ℕ, ⊎_elim}
use Rattle.cond.proofs.Parts.{drop_take}
use Rattle.cond.proofs.Tests.{both, either_way}
use Rattle.spelling.specs.Bytes.{all_are, xor_from}
use Rattle.spelling.proofs.Xor.{one_byte}
use Rattle.record.specs.declared.Record.{Record}
use Rattle.forms.specs.Checksum.{Checksum, checksums_hold, exclusive_or, checksum_by}
use Rattle.forms.specs.Form.{Form, read_by, values_by}
use Rattle.forms.specs.Places.{Layout, bytes_of, is_of, value_at, values, width}
use Rattle.forms.specs.Slots.{Slot, Values, is_checksum, of_checksum, checksum}
use Rattle.forms.proofs.Accepted.{accepted}
use Rattle.forms.proofs.Allowed.{all_at, all_drop, all_take, layout_all}
use Rattle.forms.proofs.Checksums.{is_byte}
use Rattle.forms.proofs.Complete.{implies}
use Rattle.forms.proofs.ReadWrite.{own, room}
use Rattle.forms.proofs.LayoutLimits.{layout_alike}
use Rattle.forms.proofs.Layouts.{roomy_layout}
use Rattle.forms.proofs.Slots.{◌and◌, every, every_slot, listed, none, slots}
use Rattle.forms.proofs.Sound.{SoundForm, is_sound_form, sound_form}

-- each place of the slot passes a test of where it stands and how wide it is
unfoldable pub stands : (ℕ → ℕ → Bool) → Layout → ℕ → Slot → Bool
stands t [] k f = true
stands t (p ∷ ps) k f = implies (is_of f p) (t k (width p)) && stands t ps (width p + k) f

-- a slot's value hangs on the bytes of its places
values_alike : (t : ℕ → ℕ → Bool) (s u : List ℕ) → ((k w : ℕ) → t k w ≡ true → take w (drop k s) ≡ take w (drop k u)) → (ps : Layout) (k : ℕ) (f : Slot)
    → stands t ps k f ≡ true → values ps k s f ≡ values ps k u f
unfolding stands values
values_alike t s u e [] k f h = refl
values_alike t s u e (p ∷ ps) k f h =
    let a = both (implies (is_of f p) (t k (width p))) (stands t ps (width p + k) f) h in
    either_way (is_of f p) (λ q. rw q (ap (value_at p) (e k (width p) (rw q at a.0))))
    (λ q. rw q (values_alike t s u e ps (width p + k) f a.1))

-- of n bytes from a place on: a checksum stands behind them, anything else among them
abbrev pub side : ℕ → ℕ → Bool → ℕ → ℕ → Bool
side from n true k w = leb (from + n) k
side from n false k w = leb from k && leb (k + w) (from + n)

unfoldable pub sum_over : Layout → ℕ → ℕ → Bool
sum_over ps from n = every slots (λ (f : Slot). stands (side from n (is_checksum f)) ps 0 f)

stands_by : (ps : Layout) (from n : ℕ) → sum_over ps from n ≡ true → (f : Slot) (b : Bool) → is_checksum f ≡ b → stands (side from n b) ps 0 f ≡ true
unfolding sum_over
stands_by ps from n h f b e =
    subst (λ (c : Bool). stands (side from n c) ps 0 f ≡ true) e (every_slot (λ (g : Slot). stands (side from n (is_checksum g)) ps 0 g) h f)

-- what is known of an accepted string
record Checked (d : Form) (from n : ℕ) (s : List ℕ) : Type 0 where
  long : length s ≡ d.size
  room : roomy_layout d.layout (values_by d s) ≡ true
  own : bytes_of d.layout (values_by d s) ≡ s
  total : values_by d s checksum ≡ xor_from 0 (take n (drop from s))
  bytes : all_are is_byte s ≡ true

module _ (d : Form) (from n : ℕ) (m : d.checksums ≡ checksum_by exclusive_or from n ∷ []) where
  total_of : (s : List ℕ) (v : Values) → checksums_hold d.checksums s v ≡ true → v checksum ≡ xor_from 0 (take n (drop from s))
  unfolding checksums_hold
  total_of s v h = eqb-true _ _ (subst (λ (ds : List Checksum). checksums_hold ds s v ≡ true) m h)

  checked : SoundForm d → (s : List ℕ) (r : Record) → read_by d s ≡ Ok r → Checked d from n s
  checked o s r h =
      let a = accepted d s r h in
      let e : bytes_of d.layout (values_by d s) ≡ s = own d o s r a in
      record {
        long = a.long;
        room = room d o s r a;
        own = e;
        total = total_of s (values_by d s) a.checked;
        bytes = subst (λ (t : List ℕ). all_are is_byte t ≡ true) e (layout_all is_byte d.layout (values_by d s) o.layout_bytes);
      }

-- a part that the byte does not lie in
untouched : (s : List ℕ) (k w i b : ℕ) → (i < k) ⊎ (k + w ≤ i) → take w (drop k (set s i b)) ≡ take w (drop k s)
untouched s k w i b =
    ⊎_elim (λ h. ap (take w) (drop-set-lt k s i b h))
    (λ h. sym (drop_take k w (set s i b)) ∙ ap (drop k) (take-set-le (k + w) s i b h) ∙ drop_take k w s)

module _ (d : Form) (from n : ℕ) (s : List ℕ) (i b : ℕ) (u : sum_over d.layout from n ≡ true) (a : Checked d from n s) (c : Checked d from n (set s i b)) where
  -- among the bytes of the sum the exclusive-or tells
  among_summed : from + n ≤ d.size → (j : ℕ) → i ≡ from + j → j < n → b ≡ get_or s i 0
  among_summed l j at h =
      let long = a.long in
      let alike : values_by d s checksum ≡ values_by d (set s i b) checksum =
      values_alike (side from n true) s (set s i b) (λ k w t. sym (untouched s k w i b (inl (omega (arith, leb-true (from + n) k t)))))
      d.layout 0 checksum (stands_by d.layout from n u checksum true refl) in
      let part : take n (drop from (set s i b)) ≡ set (take n (drop from s)) j b =
      ap (λ (x : ℕ). take n (drop from (set s x b))) at ∙ ap (take n) (drop-set-add from s j b) ∙ take-set-lt n (drop from s) j b h in
      let e : xor_from 0 (set (take n (drop from s)) j b) ≡ xor_from 0 (take n (drop from s)) =
      ap (xor_from 0) (sym part) ∙ sym c.total ∙ sym alike ∙ a.total in
      let byte = all_at is_byte (set s i b) i c.bytes (omega (arith, length-set s i b)) in
      let small : b < 256 = subst (λ (x : ℕ). x < 256) (get_or-set_same s i b 0 (omega arith)) (ltb-true (get_or (set s i b) i 0) 256 byte) in
      let size : length (take n (drop from s)) ≡ n = length-take-le n (drop from s) (omega (arith, length-drop from s)) in
      one_byte (take n (drop from s)) j b 0 (all_take is_byte n (drop from s) (all_drop is_byte from s a.bytes)) small (omega arith) (omega arith) e
      ∙ get_or-take n (drop from s) j 0 h ∙ get_or-drop from s j 0 ∙ ap (λ (x : ℕ). get_or s x 0) (sym at)

  -- beside them the string is settled
  rest_settled : (i < from) ⊎ (from + n ≤ i) → set s i b ≡ s
  rest_settled j = sym c.own ∙ layout_alike d.layout (values_by d (set s i b)) (values_by d s) (λ f h. same f) ∙ a.own
    where
      inside : (k w : ℕ) → side from n false k w ≡ true → take w (drop k (set s i b)) ≡ take w (drop k s)
      inside k w h =
          let t = both (leb from k) (leb (k + w) (from + n)) h in
          let low = leb-true from k t.0 in
          let high = leb-true (k + w) (from + n) t.1 in
          untouched s k w i b (⊎_elim (λ p. inl (omega arith)) (λ p. inr (omega arith)) j)

      same : (f : Slot) → values_by d (set s i b) f ≡ values_by d s f
      same f =
          either_way (is_checksum f)
          (listed (λ (g : Slot). values_by d (set s i b) g ≡ values_by d s g) of_checksum
          ((c.total ∙ ap (xor_from 0) (untouched s from n i b j) ∙ sym a.total) and none) f)
          (λ e. values_alike (side from n false) (set s i b) s inside d.layout 0 f (stands_by d.layout from n u f false e))

-- two accepted strings of a form that differ in one byte at most are the same
abbrev pub OneReplaced : Form → Type 0
OneReplaced d = (s : List ℕ) (i b : ℕ) (r q : Record) → read_by d s ≡ Ok r → i < d.size → read_by d (set s i b) ≡ Ok q → b ≡ get_or s i 0

pub one_replaced : (d : Form) → is_sound_form d ≡ true → (from n : ℕ) → d.checksums ≡ checksum_by exclusive_or from n ∷ [] → from + n ≤ d.size
    → sum_over d.layout from n ≡ true → OneReplaced d
one_replaced d o from n m l u s i b r q h g k =
    let f = sound_form d o in
    let a = checked d from n m f s r h in
    let c = checked d from n m f (set s i b) q k in
    let long = a.long in
    let beside : (i < from) ⊎ (from + n ≤ i) → b ≡ get_or s i 0 =
    λ z. sym (get_or-set_same s i b 0 (omega arith)) ∙ ap (λ (x : List ℕ). get_or x i 0) (rest_settled d from n s i b u a c z) in
    either_way (ltb i from) (λ z. beside (inl (ltb-true i from z)))
    (λ y.
    let low = ltb-false i from y in
    either_way (ltb i (from + n)) (λ z. among_summed d from n s i b u a c l (i - from) (omega arith) (omega (arith, ltb-true i (from + n) z)))
    (λ z. beside (inr (ltb-false i (from + n) z))))
