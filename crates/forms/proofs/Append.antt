-- Layouts one behind the other: what the parts pass, the whole passes.
use Rattle.cond.proofs.Kit.{[], ◌&&◌, ◌++◌, ◌+◌, ◌||◌, ◌∙◌, ◌∷◌, ◌≡◌, ◌≤◌, and_assoc, ap, append_assoc, arith, Bool, drop, false, List, not, or_assoc, refl, sym, take, true, zero-add, ℕ}
use Rattle.cond.proofs.Tests.{both, both_hold, either_way, or_right}
use Rattle.forms.specs.Checksum.{Checksum}
use Rattle.forms.specs.Places.{Place, Layout, bytes_of, has_words, fits, placed, fixed, has, is_of, part, layout_width, shape, width, has_word}
use Rattle.forms.specs.Slots.{Slot, Values}
use Rattle.forms.proofs.Allowed.{allows, allows_layout}
use Rattle.forms.proofs.LayoutLimits.{limit_of}
use Rattle.forms.proofs.Layouts.{apart, apart_layout, sound_place, sound_layout}
use Rattle.forms.proofs.Slots.{slot_self}
use Rattle.forms.proofs.Sound.{wide, wide_layout}

pub width_append : (a b : Layout) → layout_width (a ++ b) ≡ layout_width a + layout_width b
unfolding layout_width
width_append [] b = sym (zero-add (layout_width b))
width_append (p ∷ a) b = omega (arith, width_append a b)

pub bytes_append : (a b : Layout) (v : Values) → bytes_of (a ++ b) v ≡ bytes_of a v ++ bytes_of b v
unfolding bytes_of
bytes_append [] b v = refl
bytes_append (p ∷ a) b v = ap (λ (x : List ℕ). placed p v ++ x) (bytes_append a b v) ∙ sym (append_assoc (placed p v) (bytes_of a v) (bytes_of b v))

pub has_append : (a b : Layout) (f : Slot) → has (a ++ b) f ≡ (has a f || has b f)
unfolding has
has_append [] b f = refl
has_append (p ∷ a) b f = ap (λ (t : Bool). is_of f p || t) (has_append a b f) ∙ sym (or_assoc (is_of f p) (has a f) (has b f))

pub has_words_append : (a b : Layout) (v : Values) → has_words (a ++ b) v ≡ (has_words a v && has_words b v)
unfolding has_words
has_words_append [] b v = refl
has_words_append (p ∷ a) b v = ap (λ (t : Bool). has_word p v && t) (has_words_append a b v) ∙ sym (and_assoc (has_word p v) (has_words a v) (has_words b v))

pub shape_append : (a b : Layout) (k : ℕ) (s : List ℕ) → shape (a ++ b) k s ≡ (shape a k s && shape b (layout_width a + k) s)
unfolding shape layout_width
shape_append [] b k s = ap (λ (n : ℕ). shape b n s) (sym (zero-add k))
shape_append (p ∷ a) b k s =
    let e : layout_width a + (width p + k) ≡ width p + layout_width a + k = omega arith in
    ap (λ (t : Bool). fits p (take (width p) (drop k s)) && t) (shape_append a b (width p + k) s ∙ ap (λ (n : ℕ). shape a (width p + k) s && shape b n s) e)
    ∙ sym (and_assoc (fits p (take (width p) (drop k s))) (shape a (width p + k) s) (shape b (width p + layout_width a + k) s))

pub sound_append : (a b : Layout) → sound_layout a ≡ true → sound_layout b ≡ true → sound_layout (a ++ b) ≡ true
unfolding sound_layout
sound_append [] b h l = l
sound_append (p ∷ a) b h l =
    let e = both (sound_place p) (sound_layout a) h in
    both_hold (sound_place p) (sound_layout (a ++ b)) e.0 (sound_append a b e.1 l)

pub wide_append : (x : List Checksum) (a b : Layout) → wide_layout x a ≡ true → wide_layout x b ≡ true → wide_layout x (a ++ b) ≡ true
unfolding wide_layout
wide_append x [] b h l = l
wide_append x (p ∷ a) b h l =
    let e = both (wide x p) (wide_layout x a) h in
    both_hold (wide x p) (wide_layout x (a ++ b)) e.0 (wide_append x a b e.1 l)

pub allows_append : (t : ℕ → Bool) (a b : Layout) → allows_layout t a ≡ true → allows_layout t b ≡ true → allows_layout t (a ++ b) ≡ true
unfolding allows_layout
allows_append t [] b h l = l
allows_append t (p ∷ a) b h l =
    let e = both (allows t p) (allows_layout t a) h in
    both_hold (allows t p) (allows_layout t (a ++ b)) e.0 (allows_append t a b e.1 l)

pub limit_append : (a b : Layout) (f : Slot) (n : ℕ) → limit_of a f ≤ n → limit_of b f ≤ n → limit_of (a ++ b) f ≤ n
unfolding limit_of
limit_append [] b f n h l = l
limit_append (p ∷ a) b f n h l = either_way (is_of f p) (λ e. rw e (rw e at h)) (λ e. rw e (limit_append a b f n (rw e at h) l))

-- no slot has a place in both

neither : (x y : Bool) → not x ≡ true → y ≡ false → not (x || y) ≡ true
neither true y h e = h
neither false y h e = simp e

place_apart : (p : Place) (a b : Layout) → apart p a ≡ true → ((f : Slot) → has (p ∷ a) f ≡ true → has b f ≡ false) → apart p (a ++ b) ≡ true
unfolding has
place_apart (fixed bs) a b h d = refl
place_apart (part c f) a b h d = ap not (has_append a b f) ∙ neither (has a f) (has b f) h (d f (simp (slot_self f)))

pub apart_append : (a b : Layout) → apart_layout a ≡ true → apart_layout b ≡ true → ((f : Slot) → has a f ≡ true → has b f ≡ false) → apart_layout (a ++ b) ≡ true
unfolding apart_layout
apart_append [] b h l d = l
apart_append (p ∷ a) b h l d =
    let e = both (apart p a) (apart_layout a) h in
    both_hold (apart p (a ++ b)) (apart_layout (a ++ b)) (place_apart p a b e.0 d)
    (apart_append a b e.1 l (λ f i. d f (unfold has in or_right (is_of f p) (has a f) i)))
