-- What a layout accepts can be spelled by it again, where its numbers are in range.
use Rattle.cond.proofs.Kit.{[], ◌+◌, ◌<◌, ◌∙◌, ◌∷◌, ◌≡◌, ap, arith, drop, false, leb-true, List, lt-ltb, not, not-true, refl, sym, take, true, ℕ}
use Rattle.cond.proofs.Tests.{both}
use Rattle.spelling.specs.Bytes.{groups_limit}
use Rattle.spelling.specs.Spelling.{Spelling, bits, digits, grouped, hex, padded, spelled_width, value_of, word, words}
use Rattle.spelling.proofs.Spelling.{can_spell, in_groups, value_can}
use Rattle.forms.specs.Checksum.{Checksum}
use Rattle.forms.specs.Places.{Place, Layout, fits, fixed, has, part, layout_width, shape, values, width}
use Rattle.forms.specs.Slots.{Slot, Values, is_checksum}
use Rattle.forms.proofs.Limits.{bound}
use Rattle.forms.proofs.Layouts.{apart, apart_layout, behind, roomy, roomy_layout, sound_place, sound_layout}
use Rattle.forms.proofs.Slots.{slot_self}
use Rattle.forms.proofs.Sound.{wide, wide_layout}

-- a number below its bound is one that its groups spell
grouped_in : (cs : List Checksum) (c : Spelling) (f : Slot) (n : ℕ) → wide cs (part c f) ≡ true → (is_checksum f ≡ false → n < bound f) → in_groups c n ≡ true
grouped_in cs (digits w) f n i l = refl
grouped_in cs (hex w) f n i l = refl
grouped_in cs (padded w) f n i l = refl
grouped_in cs (bits w) f n i l = refl
grouped_in cs (grouped b gs) f n i l =
    let e = both (not (is_checksum f)) _ i in
    lt-ltb n (groups_limit b gs) (omega (arith, l (not-true (is_checksum f) e.0), leb-true (bound f) (groups_limit b gs) e.1))
grouped_in cs (words w ws) f n i l = refl
grouped_in cs (word m bs) f n i l = refl

place_room : (cs : List Checksum) (p : Place) (ps : Layout) (k : ℕ) (s : List ℕ) (v : Values) → sound_place p ≡ true
    → wide cs p ≡ true → fits p (take (width p) (drop k s)) ≡ true
    → ((f : Slot) → has (p ∷ ps) f ≡ true → v f ≡ values (p ∷ ps) k s f)
    → ((f : Slot) → has (p ∷ ps) f ≡ true → is_checksum f ≡ false → v f < bound f) → roomy p v ≡ true
unfolding has values
place_room cs (fixed bs) ps k s v o i h e b = refl
place_room cs (part c g) ps k s v o i h e b =
    let y : List ℕ = take (spelled_width c) (drop k s) in
    let here : has (part c g ∷ ps) g ≡ true = unfold has in simp (slot_self g) in
    let q : v g ≡ value_of c y = e g here ∙ simp (slot_self g) in
    ap (can_spell c) q ∙ value_can y c o h (ap (in_groups c) (sym q) ∙ grouped_in cs c g (v g) i (b g here))

pub layout_room : (cs : List Checksum) (ps : Layout) (k : ℕ) (s : List ℕ) (v : Values) → sound_layout ps ≡ true
    → wide_layout cs ps ≡ true → apart_layout ps ≡ true → shape ps k s ≡ true
    → ((f : Slot) → has ps f ≡ true → v f ≡ values ps k s f)
    → ((f : Slot) → has ps f ≡ true → is_checksum f ≡ false → v f < bound f) → roomy_layout ps v ≡ true
unfolding layout_width apart_layout shape roomy_layout sound_layout wide_layout
layout_room cs [] k s v o i a h e b = refl
layout_room cs (p ∷ ps) k s v o i a h e b =
    let so = both (sound_place p) (sound_layout ps) o in
    let wi = both (wide cs p) (wide_layout cs ps) i in
    let ap = both (apart p ps) (apart_layout ps) a in
    let fi = both (fits p (take (width p) (drop k s))) (shape ps (width p + k) s) h in
    let there =
    layout_room cs ps (width p + k) s v so.1 wi.1 ap.1 fi.1
    (λ f j. let z = behind k s p ps f ap.0 j in e f z.0 ∙ z.1)
    (λ f j n. b f (behind k s p ps f ap.0 j).0 n) in
    simp (place_room cs p ps k s v so.0 wi.0 fi.0 e b, there)
