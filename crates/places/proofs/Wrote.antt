-- The contract of a writer over any form: its answer is `admitted`, and what it stored are the form's bytes.
use Rattle.std.specs.Prelude.{Result, Ok, Err}
use Rattle.cond.proofs.Kit.{[], ◌&&◌, ◌++◌, ◌∙◌, ◌∷◌, ◌≡◌, ◌≤◌, ap, arith, Bool, drop, false, leb, leb-true, length, List, lt-ltb, refl, sym, true, ℕ}
use Rattle.cond.proofs.Tests.{both, either_way}
use Rattle.spelling.specs.Spelling.{bits, digits, grouped, hex, padded, word, words}
use Rattle.record.specs.declared.Record.{Record}
use Rattle.record.specs.declared.refusal.Refusal.{Refusal}
use Rattle.record.specs.declared.refusal.Refusal.TheVariants as refusal
use Rattle.record.specs.Record.{is_good}
use Rattle.forms.specs.All.{all}
use Rattle.forms.specs.Form.{Form, Wrote, bytes_by, carries, is_expressible, write_by}
use Rattle.forms.specs.Required.{has_carried}
use Rattle.forms.specs.Places.{Place, Layout, has_words, fixed, has, part, has_word}
use Rattle.forms.specs.Slots.{hour, minute, second}
use Rattle.forms.specs.Encode.{encode}
use Rattle.forms.proofs.All.{test_at}
use Rattle.forms.proofs.Bounds.{good, encode_lt}
use Rattle.forms.proofs.Keeps.{left_refused, left_written}
use Rattle.forms.proofs.Limits.{bound}
use Rattle.forms.proofs.Sound.{is_sound_form}
use Rattle.forms.proofs.Trips.{refused_written, taken_by}
use Rattle.forms.proofs.WriteRead.{written}
use Rattle.places.specs.Admitted.{Storable, admitted}
use Rattle.places.specs.Stores.{stores}
use Rattle.places.proofs.Stored.{stores_form}

-- `e` says whether there is a word for what a good record tells
module _ (d : Form) (r : Record) (o : List ℕ) (e : Bool) (x : is_good r ≡ true → is_expressible d.layout (encode r) ≡ e) where
  abbrev answer : Result ℕ Refusal
  answer = admitted (is_good r) (has_carried (carries d) r) e d.size (length o)

  writes : write_by d r (length o) ≡ answer
  unfolding write_by admitted
  writes = either_way (is_good r) (λ g. rw (x g)) (λ g. simp g)

  pub refused : (y : Refusal) → answer ≡ Err y → Wrote d r (Err y) o o
  refused y h = record { answer = sym (writes ∙ h); left = sym (left_refused d r o y (writes ∙ h)) }

  module _ (n : ℕ) (h : answer ≡ Ok n) where
    fits : d.size ≤ length o
    unfolding admitted
    fits =
        either_way (leb d.size (length o)) (leb-true d.size (length o))
        (λ q.
        let p = taken_by d r (length o) n (writes ∙ h) in
        absurd (refused_written refusal.ShortBuffer n (simp (p.good, p.complete, sym (x p.good), p.spellable, q) at h)))

    pub storable : Storable d r (length o)
    storable =
        let p = taken_by d r (length o) n (writes ∙ h) in
        record { good = p.good; carried = p.complete; expressible = p.spellable; fits = fits }

    pub wrote_bytes : (after : List ℕ) → after ≡ bytes_by d (encode r) ++ drop d.size o → Wrote d r (Ok n) o after
    wrote_bytes after q =
        record {
          answer = sym (writes ∙ h);
          left =
              q ∙ ap (λ (k : ℕ). bytes_by d (encode r) ++ drop k o) (taken_by d r (length o) n (writes ∙ h)).size
              ∙ sym (left_written d r o n (writes ∙ h));
        }

    pub wrote : is_sound_form d ≡ true → (after : List ℕ) → after ≡ stores d.layout 0 (written d r) o → Wrote d r (Ok n) o after
    wrote t after q =
        let s = storable in
        wrote_bytes after (q ∙ stores_form d t r s.good s.expressible o s.fits)

-- a layout whose words are as many as a good record can tell has a word for each

abbrev always_has_word : Place → Bool
always_has_word (fixed bs) = true
always_has_word (part (digits w) f) = true
always_has_word (part (hex w) f) = true
always_has_word (part (padded w) f) = true
always_has_word (part (bits w) f) = true
always_has_word (part (grouped b gs) f) = true
always_has_word (part (words w ws) f) = leb (bound f) (length ws)
always_has_word (part (word m bs) f) = false

unfoldable pub always_has_words : Layout → Bool
always_has_words [] = true
always_has_words (p ∷ ps) = always_has_word p && always_has_words ps

-- and it tells the whole time
unfoldable pub always_expressible : Layout → Bool
always_expressible ps = all (has ps hour ∷ has ps minute ∷ has ps second ∷ always_has_words ps ∷ [])

place_has_words : (p : Place) (r : Record) → always_has_word p ≡ true → is_good r ≡ true → has_word p (encode r) ≡ true
place_has_words (fixed bs) r h g = refl
place_has_words (part (digits w) f) r h g = refl
place_has_words (part (hex w) f) r h g = refl
place_has_words (part (padded w) f) r h g = refl
place_has_words (part (bits w) f) r h g = refl
place_has_words (part (grouped b gs) f) r h g = refl
place_has_words (part (words w ws) f) r h g =
    lt-ltb (encode r f) (length ws) (omega (arith, encode_lt r (good r g) f, leb-true (bound f) (length ws) h))
place_has_words (part (word m bs) f) r h g = let z : false ≡ true = h in cc

layout_words : (ps : Layout) → always_has_words ps ≡ true → (r : Record) → is_good r ≡ true → has_words ps (encode r) ≡ true
unfolding always_has_words has_words
layout_words [] h r g = refl
layout_words (p ∷ ps) h r g =
    let a = both (always_has_word p) (always_has_words ps) h in
    simp (place_has_words p r a.0 g, layout_words ps a.1 r g)

pub layout_has_words : (ps : Layout) → always_expressible ps ≡ true → (r : Record) → is_good r ≡ true → is_expressible ps (encode r) ≡ true
unfolding always_expressible is_expressible
layout_has_words ps h r g =
    let encode_at = test_at (has ps hour ∷ has ps minute ∷ has ps second ∷ always_has_words ps ∷ []) h in
    simp (encode_at 0, encode_at 1, encode_at 2, layout_words ps (encode_at 3) r g)
