-- Values below the bounds, with a word for each, have room in the places of a form.
use Rattle.cond.proofs.Kit.{[], ◌<◌, ◌^◌, ◌∙◌, ◌∷◌, ◌≡◌, ap, arith, false, leb-true, List, lit<, lt-ltb, not, not-true, refl, true, ℕ}
use Rattle.cond.proofs.Tests.{both, either_way, or_left, or_right}
use Rattle.spelling.specs.Bytes.{all_are, groups_limit}
use Rattle.spelling.specs.Spelling.{bits, digits, grouped, hex, padded, word, words}
use Rattle.forms.specs.Checksum.{Checksum, Rule, even_ones, exclusive_or, with_checksums}
use Rattle.forms.specs.Form.{express_tests, is_expressible}
use Rattle.forms.specs.Places.{Place, Layout, has_words, fixed, has, is_of, part, has_word}
use Rattle.forms.specs.Slots.{Slot, Values, is_checksum, same}
use Rattle.forms.proofs.All.{test_at}
use Rattle.forms.proofs.ChecksumList.{checksums_sound, sound_of}
use Rattle.forms.proofs.Checksums.{checksum_lt, is_byte, rule_limit}
use Rattle.forms.proofs.Limits.{bound}
use Rattle.forms.proofs.Layouts.{roomy, roomy_layout}
use Rattle.forms.proofs.Slots.{same_slot, slot_self}
use Rattle.forms.proofs.Sound.{bound_in, wide, wide_layout}

-- values below the bounds, with a word for each, have room

wide_roomy : (cs : List Checksum) (p : Place) (v : Values) → wide cs p ≡ true → has_word p v ≡ true → ((f : Slot) → v f < bound_in cs f)
    → ((f : Slot) → is_checksum f ≡ false → v f < bound f) → roomy p v ≡ true
wide_roomy cs (fixed bs) v w h l m = refl
wide_roomy cs (part (digits w) f) v e h l m = lt-ltb (v f) (10 ^ w) (omega (arith, l f, leb-true (bound_in cs f) (10 ^ w) e))
wide_roomy cs (part (hex w) f) v e h l m = lt-ltb (v f) (16 ^ w) (omega (arith, l f, leb-true (bound_in cs f) (16 ^ w) e))
wide_roomy cs (part (padded w) f) v e h l m = lt-ltb (v f) (10 ^ w) (omega (arith, l f, leb-true (bound_in cs f) (10 ^ w) e))
wide_roomy cs (part (bits w) f) v e h l m = lt-ltb (v f) (2 ^ w) (omega (arith, l f, leb-true (bound_in cs f) (2 ^ w) e))
wide_roomy cs (part (grouped b gs) f) v e h l m =
    let a = both (not (is_checksum f)) _ e in
    lt-ltb (v f) (groups_limit b gs) (omega (arith, m f (not-true (is_checksum f) a.0), leb-true (bound f) (groups_limit b gs) a.1))
wide_roomy cs (part (words w ws) f) v e h l m = h
wide_roomy cs (part (word m bs) f) v e h l n = h

pub layout_roomy : (cs : List Checksum) (ps : Layout) (v : Values) → wide_layout cs ps ≡ true → has_words ps v ≡ true → ((f : Slot) → v f < bound_in cs f)
    → ((f : Slot) → is_checksum f ≡ false → v f < bound f) → roomy_layout ps v ≡ true
unfolding wide_layout has_words roomy_layout
layout_roomy cs [] v w h l m = refl
layout_roomy cs (p ∷ ps) v w h l m =
    let a = both (wide cs p) (wide_layout cs ps) w in
    let b = both (has_word p v) (has_words ps v) h in
    simp (wide_roomy cs p v a.0 b.0 l m, layout_roomy cs ps v a.1 b.1 l m)

-- words do not tell a checksum: what has room has words, and so have values that differ in checksums alone

place_has_words : (cs : List Checksum) (p : Place) (v w : Values) → wide cs p ≡ true → ((f : Slot) → is_of f p ≡ true → is_checksum f ≡ false → v f ≡ w f)
    → roomy p v ≡ true → has_word p w ≡ true
place_has_words cs (fixed bs) v w t e h = refl
place_has_words cs (part (digits n) f) v w t e h = refl
place_has_words cs (part (hex n) f) v w t e h = refl
place_has_words cs (part (padded n) f) v w t e h = refl
place_has_words cs (part (bits n) f) v w t e h = refl
place_has_words cs (part (grouped b gs) f) v w t e h = refl
place_has_words cs (part (words n ws) f) v w t e h = rw (← e f (slot_self f) (not-true (is_checksum f) t)) h
place_has_words cs (part (word m bs) f) v w t e h = rw (← e f (slot_self f) (not-true (is_checksum f) t)) h

pub layout_has_words : (cs : List Checksum) (ps : Layout) (v w : Values) → wide_layout cs ps ≡ true → ((f : Slot) → has ps f ≡ true → is_checksum f ≡ false → v f ≡ w f)
    → roomy_layout ps v ≡ true → has_words ps w ≡ true
unfolding has_words wide_layout roomy_layout has
layout_has_words cs [] v w t e h = refl
layout_has_words cs (p ∷ ps) v w t e h =
    let a = both (wide cs p) (wide_layout cs ps) t in
    let b = both (roomy p v) (roomy_layout ps v) h in
    let here = place_has_words cs p v w a.0 (λ f i. e f (or_left (is_of f p) (has ps f) i)) b.0 in
    let there = layout_has_words cs ps v w a.1 (λ f i. e f (or_right (is_of f p) (has ps f) i)) b.1 in
    simp (here, there)

-- a good record's values and its checksums stay below the bounds
pub below_bounds : (cs : List Checksum) (v : Values) (s : List ℕ) → all_are is_byte s ≡ true → ((f : Slot) → v f < bound f)
    → (f : Slot) → with_checksums cs s v f < bound_in cs f
below_bounds [] v s h l f = l f
below_bounds (c ∷ cs) v s h l f = either_way (same f c.slot) (λ q. rw q (checksum_lt c s h)) (λ q. rw q (below_bounds cs v s h l f))

positive : (m : Rule) → 0 < rule_limit m
positive exclusive_or = lit< tt
positive even_ones = lit< tt

-- and so do its values without them
pub below_limits : (ps : Layout) (cs : List Checksum) (v : Values) → checksums_sound ps cs ≡ true → ((f : Slot) → v f < bound f)
    → ((f : Slot) → is_checksum f ≡ true → v f ≡ 0) → (f : Slot) → v f < bound_in cs f
below_limits ps [] v o l z f = l f
below_limits ps (c ∷ cs) v o l z f =
    let a = sound_of ps c cs o in
    either_way (same f c.slot) (λ q. rw q (omega (arith, positive c.rule, z f (ap is_checksum (same_slot f c.slot q) ∙ a.is_of_checksum))))
    (λ q. rw q (below_limits ps cs v a.others l z f))

-- what is expressible has a word for each of its values
pub expressible_has_words : (ps : Layout) (v : Values) → is_expressible ps v ≡ true → has_words ps v ≡ true
unfolding is_expressible
expressible_has_words ps v h = test_at (express_tests ps v) h 3
