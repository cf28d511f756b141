-- What a layout tells, and what has room in it, stays below the limits of its places.
use Rattle.cond.proofs.Kit.{[], ◌+◌, ◌<◌, ◌||◌, ◌∷◌, ◌≡◌, ap, drop, eqb, false, false≢true, List, refl, take, true, ℕ}
use Rattle.cond.specs.Pick.{pick}
use Rattle.cond.proofs.Tests.{both, either_way, or_left, or_right, other}
use Rattle.spelling.specs.Spelling.{spell}
use Rattle.spelling.proofs.Spelling.{can_lt, limit, value_lt}
use Rattle.forms.specs.Places.{Place, Layout, bytes_of, fits, fixed, has, is_of, part, placed, layout_width, shape, value_at, values, width}
use Rattle.forms.specs.Slots.{Slot, Values, same}
use Rattle.forms.proofs.Layouts.{roomy, roomy_layout, sound_place, sound_layout}
use Rattle.forms.proofs.Slots.{same_slot, slot_self}

-- the limit of a slot's spelling
abbrev pub place_limit : Place → ℕ
place_limit (fixed bs) = 0
place_limit (part c f) = limit c

unfoldable pub limit_of : Layout → Slot → ℕ
limit_of [] f = 0
limit_of (p ∷ ps) f = pick (is_of f p) (place_limit p) (limit_of ps f)

place_lt : (p : Place) (x : List ℕ) (f : Slot) (n m : ℕ) → sound_place p ≡ true → fits p x ≡ true → (is_of f p ≡ false → n < m)
    → pick (is_of f p) (value_at p x) n < pick (is_of f p) (place_limit p) m
place_lt (fixed bs) x f n m o h i = i refl
place_lt (part c g) x f n m o h i = either_way (same f g) (λ q. rw q (value_lt x c o h)) (λ q. rw q (i q))

-- what a layout tells stays below the limit
pub values_lt : (ps : Layout) (k : ℕ) (s : List ℕ) (f : Slot) → sound_layout ps ≡ true → shape ps k s ≡ true → has ps f ≡ true
    → values ps k s f < limit_of ps f
unfolding has values limit_of shape layout_width sound_layout
values_lt [] k s f o h i = absurd (false≢true i)
values_lt (p ∷ ps) k s f o h i =
    let a = both (sound_place p) (sound_layout ps) o in
    let b = both (fits p (take (width p) (drop k s))) (shape ps (width p + k) s) h in
    place_lt p (take (width p) (drop k s)) f (values ps (width p + k) s f) (limit_of ps f) a.0 b.0
    (λ e. values_lt ps (width p + k) s f a.1 b.1 (other (is_of f p) (has ps f) i e))

-- what has room stays below the limit
room_lt : (p : Place) (v : Values) (f : Slot) (m : ℕ) → roomy p v ≡ true → (is_of f p ≡ false → v f < m) → v f < pick (is_of f p) (place_limit p) m
room_lt (fixed bs) v f m h i = i refl
room_lt (part c g) v f m h i = either_way (same f g) (λ q. rw (q, same_slot f g q) (can_lt (v g) c h)) (λ q. rw q (i q))

pub roomy_lt : (ps : Layout) (v : Values) (f : Slot) → roomy_layout ps v ≡ true → has ps f ≡ true → v f < limit_of ps f
unfolding has limit_of roomy_layout
roomy_lt [] v f h i = absurd (false≢true i)
roomy_lt (p ∷ ps) v f h i =
    let b = both (roomy p v) (roomy_layout ps v) h in
    room_lt p v f (limit_of ps f) b.0 (λ e. roomy_lt ps v f b.1 (other (is_of f p) (has ps f) i e))

-- bytes depend on the layout's own slots

place_alike : (p : Place) (v w : Values) → ((f : Slot) → is_of f p ≡ true → v f ≡ w f) → placed p v ≡ placed p w
place_alike (fixed bs) v w e = refl
place_alike (part c f) v w e = ap (spell c) (e f (slot_self f))

pub layout_alike : (ps : Layout) (v w : Values) → ((f : Slot) → has ps f ≡ true → v f ≡ w f) → bytes_of ps v ≡ bytes_of ps w
unfolding bytes_of has
layout_alike [] v w e = refl
layout_alike (p ∷ ps) v w e =
    let here = place_alike p v w (λ f h. e f (or_left (is_of f p) (has ps f) h)) in
    let there = layout_alike ps v w (λ f h. e f (or_right (is_of f p) (has ps f) h)) in
    cc

-- a part of the time that the layout does not tell is 0
pub unplaced : (ps : Layout) (k : ℕ) (s : List ℕ) (f : Slot) → (has ps f || eqb (values ps k s f) 0) ≡ true
unfolding has values
unplaced [] k s f = refl
unplaced (p ∷ ps) k s f = either_way (is_of f p) (λ q. simp q) (λ q. rw q (unplaced ps (width p + k) s f))
