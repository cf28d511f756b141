-- The test that a form has to pass, and what it says.
use Rattle.cond.proofs.Kit.{[], ◌&&◌, ◌^◌, ◌∷◌, ◌≡◌, Bool, eqb, eqb-true, leb, List, not, true, ℕ}
use Rattle.cond.specs.Pick.{pick}
use Rattle.spelling.specs.Bytes.{groups_limit}
use Rattle.spelling.specs.Spelling.{bits, digits, grouped, hex, padded, word, words}
use Rattle.forms.specs.All.{all}
use Rattle.forms.specs.Checksum.{Checksum}
use Rattle.forms.specs.Form.{Form}
use Rattle.forms.specs.Places.{Place, Layout, fixed, has, part, layout_width}
use Rattle.forms.specs.Slots.{Slot, among, is_checksum, of_checksum, same}
use Rattle.forms.proofs.All.{test_at}
use Rattle.forms.proofs.Allowed.{allows_layout}
use Rattle.forms.proofs.ChecksumList.{checksums_sound, slots_of}
use Rattle.forms.proofs.Checksums.{is_byte, rule_limit}
use Rattle.forms.proofs.Complete.{Complete, complete, implied, implies, is_complete}
use Rattle.forms.proofs.Limits.{bound}
use Rattle.forms.proofs.Layouts.{apart_layout, sound_layout}
use Rattle.forms.proofs.Slots.{every, every_in}

-- values stay below this: a good record's bound, and for a checksum its own limit
abbrev pub bound_in : List Checksum → Slot → ℕ
bound_in [] f = bound f
bound_in (c ∷ cs) f = pick (same f c.slot) (rule_limit c.rule) (bound_in cs f)

-- a place has room for every value, and a checksum is told by digits or bits
abbrev pub wide : List Checksum → Place → Bool
wide cs (fixed bs) = true
wide cs (part (digits w) f) = leb (bound_in cs f) (10 ^ w)
wide cs (part (hex w) f) = leb (bound_in cs f) (16 ^ w)
wide cs (part (padded w) f) = leb (bound_in cs f) (10 ^ w)
wide cs (part (bits w) f) = leb (bound_in cs f) (2 ^ w)
wide cs (part (grouped b gs) f) = not (is_checksum f) && leb (bound f) (groups_limit b gs)
wide cs (part (words w ws) f) = not (is_checksum f)
wide cs (part (word m bs) f) = not (is_checksum f)

unfoldable pub wide_layout : List Checksum → Layout → Bool
wide_layout cs [] = true
wide_layout cs (p ∷ ps) = wide cs p && wide_layout cs ps

-- the form has each checksum that its layout tells
abbrev pub all_checked : Form → Bool
all_checked d = every of_checksum (λ (f : Slot). implies (has d.layout f) (among f (slots_of d.checksums)))

abbrev sound_tests : Form → List Bool
sound_tests d =
    eqb (layout_width d.layout) d.size
    ∷ sound_layout d.layout
    ∷ apart_layout d.layout
    ∷ wide_layout d.checksums d.layout
    ∷ is_complete d.layout
    ∷ all_checked d
    ∷ checksums_sound d.layout d.checksums
    ∷ allows_layout is_byte d.layout
    ∷ []

unfoldable pub is_sound_form : Form → Bool
is_sound_form d = all (sound_tests d)

pub record SoundForm (d : Form) : Type 0 where
  pub sized : layout_width d.layout ≡ d.size
  pub layout_sound : sound_layout d.layout ≡ true
  pub layout_apart : apart_layout d.layout ≡ true
  pub layout_wide : wide_layout d.checksums d.layout ≡ true
  pub layout_complete : Complete d.layout
  pub checked : (f : Slot) → is_checksum f ≡ true → has d.layout f ≡ true → among f (slots_of d.checksums) ≡ true
  pub checksums_pass : checksums_sound d.layout d.checksums ≡ true
  pub layout_bytes : allows_layout is_byte d.layout ≡ true

pub sound_form : (d : Form) → is_sound_form d ≡ true → SoundForm d
unfolding is_sound_form
sound_form d h =
    let at = test_at (sound_tests d) h in
    record {
      sized = eqb-true _ _ (at 0);
      layout_sound = at 1;
      layout_apart = at 2;
      layout_wide = at 3;
      layout_complete = complete d.layout (at 4);
      checked = λ f i.
          implied _ _ (every_in of_checksum (λ (g : Slot). implies (has d.layout g) (among g (slots_of d.checksums))) (at 5) f i);
      checksums_pass = at 6;
      layout_bytes = at 7;
    }
