-- A row of places: what it writes is read back, and what it accepts is written again.
use Rattle.cond.proofs.Kit.{[], ◌&&◌, ◌++◌, ◌+◌, ◌||◌, ◌∙◌, ◌∷◌, ◌≡◌, ◌≤◌, add_comm, ap, append_assoc, arith, Bool, drop, drop_at, drop-drop, drop-length, false≢true, length, length-append, length-drop, length-take-le, List, not, not-true, refl, sym, take, take-append-drop, take_at, true, ℕ}
use Rattle.cond.specs.Pick.{pick}
use Rattle.cond.proofs.Tests.{both, either_way}
use Rattle.spelling.specs.Spelling.{spell, spelled_width, value_of}
use Rattle.spelling.proofs.SameBytes.{same_bytes_lem, same_self}
use Rattle.spelling.proofs.Spelling.{can_spell, is_sound, spell_is, spell_length, spell_value, value_spell}
use Rattle.forms.specs.Places.{Place, Layout, bytes_of, fits, fixed, has, is_of, part, placed, layout_width, shape, value_at, values, width}
use Rattle.forms.specs.Slots.{Slot, Values, same}
use Rattle.forms.proofs.Slots.{same_slot, slot_self}

abbrev pub sound_place : Place → Bool
sound_place (fixed bs) = true
sound_place (part c f) = is_sound c

unfoldable pub sound_layout : Layout → Bool
sound_layout [] = true
sound_layout (p ∷ ps) = sound_place p && sound_layout ps

-- what v tells has room
abbrev pub roomy : Place → Values → Bool
roomy (fixed bs) v = true
roomy (part c f) v = can_spell c (v f)

unfoldable pub roomy_layout : Layout → Values → Bool
roomy_layout [] v = true
roomy_layout (p ∷ ps) v = roomy p v && roomy_layout ps v

pub placed_length : (p : Place) (v : Values) → sound_place p ≡ true → roomy p v ≡ true → length (placed p v) ≡ width p
placed_length (fixed bs) v h r = refl
placed_length (part c f) v h r = spell_length (v f) c h r

pub bytes_length : (ps : Layout) (v : Values) → sound_layout ps ≡ true → roomy_layout ps v ≡ true → length (bytes_of ps v) ≡ layout_width ps
unfolding bytes_of layout_width sound_layout roomy_layout
bytes_length [] v h r = refl
bytes_length (p ∷ ps) v h r =
    let a = both (sound_place p) (sound_layout ps) h in
    let b = both (roomy p v) (roomy_layout ps v) r in
    length-append (placed p v) (bytes_of ps v) ∙ omega (arith, placed_length p v a.0 b.0, bytes_length ps v a.1 b.1)

placed_fits : (p : Place) (v : Values) → sound_place p ≡ true → roomy p v ≡ true → fits p (placed p v) ≡ true
placed_fits (fixed bs) v h r = same_self bs
placed_fits (part c f) v h r = spell_is (v f) c h r

-- what v tells of the layout's slots
abbrev pub shown : Layout → Values → Values
shown ps v f = pick (has ps f) (v f) 0

placed_value : (p : Place) (ps : Layout) (v : Values) (f : Slot) (n : ℕ) → sound_place p ≡ true → roomy p v ≡ true → n ≡ shown ps v f
    → pick (is_of f p) (value_at p (placed p v)) n ≡ pick (is_of f p || has ps f) (v f) 0
placed_value (fixed bs) ps v f n h r e = e
placed_value (part c g) ps v f n h r e =
    either_way (same f g) (λ q. rw q (spell_value (v g) c h r ∙ ap v (sym (same_slot f g q)))) (λ q. rw q e)

piece : (front x back s : List ℕ) (k w : ℕ) → length front ≡ k → length x ≡ w → s ≡ front ++ (x ++ back) → take w (drop k s) ≡ x
piece front x back s k w l m e = ap (λ (t : List ℕ). take w (drop k t)) e ∙ ap (take w) (drop_at front (x ++ back) k l) ∙ take_at x back w m

-- what a layout wrote is read back, shape and values
pub layout_read : (ps : Layout) (k : ℕ) (v : Values) (front back s : List ℕ) → length front ≡ k → s ≡ front ++ (bytes_of ps v ++ back)
    → sound_layout ps ≡ true → roomy_layout ps v ≡ true → (shape ps k s ≡ true) × ((f : Slot) → values ps k s f ≡ shown ps v f)
unfolding bytes_of sound_layout roomy_layout values shape has
layout_read [] k v front back s l e h r = (refl, λ f. refl)
layout_read (p ∷ ps) k v front back s l e h r =
    let a = both (sound_place p) (sound_layout ps) h in
    let b = both (roomy p v) (roomy_layout ps v) r in
    let m = placed_length p v a.0 b.0 in
    let g : take (width p) (drop k s) ≡ placed p v = piece front (placed p v) (bytes_of ps v ++ back) s k (width p) l m (e ∙ simp append_assoc) in
    let next : length (front ++ placed p v) ≡ width p + k = length-append front (placed p v) ∙ omega arith in
    let there = layout_read ps (width p + k) v (front ++ placed p v) back s next (e ∙ simp append_assoc) a.1 b.1 in (
      simp (g, placed_fits p v a.0 b.0, there.0),
      λ f. ap (λ (x : List ℕ). pick (is_of f p) (value_at p x) (values ps (width p + k) s f)) g
          ∙ placed_value p ps v f (values ps (width p + k) s f) a.0 b.0 (there.1 f),
    )

-- no slot has two places
abbrev pub apart : Place → Layout → Bool
apart (fixed bs) ps = true
apart (part c f) ps = not (has ps f)

unfoldable pub apart_layout : Layout → Bool
apart_layout [] = true
apart_layout (p ∷ ps) = apart p ps && apart_layout ps

module _ (k : ℕ) (s : List ℕ) where
  pub piece_length : (w : ℕ) → k + w ≤ length s → length (take w (drop k s)) ≡ w
  piece_length w h = length-take-le w (drop k s) (omega (arith, length-drop k s))

  place_write : (p : Place) (ps : Layout) (v : Values) → sound_place p ≡ true → roomy p v ≡ true → fits p (take (width p) (drop k s)) ≡ true
      → ((f : Slot) → has (p ∷ ps) f ≡ true → v f ≡ values (p ∷ ps) k s f) → placed p v ≡ take (width p) (drop k s)
  unfolding has values
  place_write (fixed bs) ps v o r h e = sym (same_bytes_lem _ _ h)
  place_write (part c g) ps v o r h e =
      let x : List ℕ = take (spelled_width c) (drop k s) in
      let q : v g ≡ value_of c x = e g (simp (slot_self g)) ∙ simp (slot_self g) in
      ap (spell c) q ∙ value_spell x c o h (ap (can_spell c) (sym q) ∙ r)

  -- the layout behind the first place tells its own slots
  pub behind : (p : Place) (ps : Layout) (f : Slot) → apart p ps ≡ true → has ps f ≡ true
      → (has (p ∷ ps) f ≡ true) × (values (p ∷ ps) k s f ≡ values ps (width p + k) s f)
  unfolding has values
  behind (fixed bs) ps f a h = (h, refl)
  behind (part c g) ps f a h =
      either_way (same f g) (λ q. absurd (false≢true (sym (not-true (has ps g) a) ∙ ap (has ps) (sym (same_slot f g q)) ∙ h)))
      (λ q. rw q (h, refl))

-- what a layout accepts, its values spell again
pub layout_write : (ps : Layout) (k : ℕ) (s : List ℕ) (v : Values) → sound_layout ps ≡ true → roomy_layout ps v ≡ true → apart_layout ps ≡ true → shape ps k s ≡ true
    → k + layout_width ps ≡ length s → ((f : Slot) → has ps f ≡ true → v f ≡ values ps k s f) → bytes_of ps v ≡ drop k s
unfolding bytes_of layout_width apart_layout shape sound_layout roomy_layout
layout_write [] k s v o r a h l e =
    let q : k ≡ length s = omega arith in
    sym (ap (λ (n : ℕ). drop n s) q ∙ drop-length s)
layout_write (p ∷ ps) k s v o r a h l e =
    let i = both (sound_place p) (sound_layout ps) o in
    let j = both (roomy p v) (roomy_layout ps v) r in
    let q = both (apart p ps) (apart_layout ps) a in
    let b = both (fits p (take (width p) (drop k s))) (shape ps (width p + k) s) h in
    let here = place_write k s p ps v i.0 j.0 b.0 e in
    let there =
    layout_write ps (width p + k) s v i.1 j.1 q.1 b.1 (omega arith) (λ f y. let z = behind k s p ps f q.0 y in e f z.0 ∙ z.1) in
    let boundary : take (width p) (drop k s) ++ drop (width p + k) s ≡ drop k s =
    ap (λ (n : ℕ). take (width p) (drop k s) ++ drop n s) (add_comm (width p) k)
    ∙ ap (λ (t : List ℕ). take (width p) (drop k s) ++ t) (sym (drop-drop (width p) k s))
    ∙ take-append-drop (width p) (drop k s) in
    simp (here, there) boundary
