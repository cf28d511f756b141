-- Variants chosen line by line: a test of every variant holds of every layout so chosen, and a slot that stands in one line alone is
-- told by the variant chosen there.
use Rattle.cond.proofs.Kit.{[], ◌&&◌, ◌++◌, ◌<◌, ◌||◌, ◌∙◌, ◌∷◌, ◌≡◌, ap, arith, Bool, false, false≢true, get_or, length, List, ltb, ltb-true, not, not-true, or-false, refl, suc, sym, true, zero, ℕ}
use Rattle.cond.proofs.Tests.{both}
use Rattle.forms.specs.Block.{Line, chosen_layout}
use Rattle.forms.specs.Places.{Layout, has_words, has}
use Rattle.forms.specs.Slots.{Slot, Values}
use Rattle.forms.proofs.Append.{apart_append, has_append, has_words_append}
use Rattle.forms.proofs.Layouts.{apart_layout}

-- a test of every variant

unfoldable pub every_variant : (Layout → Bool) → Line → Bool
every_variant t [] = true
every_variant t (ps ∷ l) = t ps && every_variant t l

unfoldable pub every_line : (Line → Bool) → List Line → Bool
every_line t [] = true
every_line t (l ∷ ls) = t l && every_line t ls

pub variant_passes : (t : Layout → Bool) (l : Line) (c : ℕ) → c < length l → every_variant t l ≡ true → t (get_or l c []) ≡ true
unfolding every_variant
variant_passes t [] c b h = absurd (omega (arith, b))
variant_passes t (ps ∷ l) zero b h = (both (t ps) (every_variant t l) h).0
variant_passes t (ps ∷ l) (suc c) b h = variant_passes t l c (omega arith) (both (t ps) (every_variant t l) h).1

-- a choice for each line, of a variant that it has
unfoldable pub is_choice : List Line → List ℕ → Bool
is_choice [] [] = true
is_choice [] (c ∷ cs) = false
is_choice (l ∷ ls) [] = false
is_choice (l ∷ ls) (c ∷ cs) = ltb c (length l) && is_choice ls cs

pub choice_head : (l : Line) (ls : List Line) (c : ℕ) (cs : List ℕ) → is_choice (l ∷ ls) (c ∷ cs) ≡ true → (c < length l) × (is_choice ls cs ≡ true)
unfolding is_choice
choice_head l ls c cs h =
    let e = both (ltb c (length l)) (is_choice ls cs) h in
    (ltb-true c (length l) e.0, e.1)

pub choice_length : (ls : List Line) (cs : List ℕ) → is_choice ls cs ≡ true → length cs ≡ length ls
unfolding is_choice
choice_length [] [] o = refl
choice_length [] (c ∷ cs) o = absurd (false≢true o)
choice_length (l ∷ ls) [] o = absurd (false≢true o)
choice_length (l ∷ ls) (c ∷ cs) o = ap suc (choice_length ls cs (choice_head l ls c cs o).1)

-- what passes layout behind layout, a chosen layout passes
pub layout_passes : (t : Layout → Bool) → t [] ≡ true → ((a b : Layout) → t a ≡ true → t b ≡ true → t (a ++ b) ≡ true) → (ls : List Line) (cs : List ℕ)
    → is_choice ls cs ≡ true → every_line (every_variant t) ls ≡ true → t (chosen_layout ls cs) ≡ true
unfolding every_line chosen_layout
layout_passes t e j [] cs o h = e
layout_passes t e j (l ∷ ls) [] o h = e
layout_passes t e j (l ∷ ls) (c ∷ cs) o h =
    let b = both (every_variant t l) (every_line (every_variant t) ls) h in
    let m = choice_head l ls c cs o in
    j (get_or l c []) (chosen_layout ls cs) (variant_passes t l c m.0 b.0) (layout_passes t e j ls cs m.1 b.1)

-- the variant chosen for line i
abbrev pub variant_in : List Line → List ℕ → ℕ → Layout
variant_in ls cs i = get_or (get_or ls i []) (get_or cs i 0) []

pub choice_lt : (ls : List Line) (cs : List ℕ) → is_choice ls cs ≡ true → (i : ℕ) → i < length ls → get_or cs i 0 < length (get_or ls i [])
unfolding is_choice
choice_lt [] [] h i l = absurd (omega (arith, l))
choice_lt [] (c ∷ cs) h i l = absurd (false≢true h)
choice_lt (m ∷ ls) [] h i l = absurd (false≢true h)
choice_lt (m ∷ ls) (c ∷ cs) h zero l = (choice_head m ls c cs h).0
choice_lt (m ∷ ls) (c ∷ cs) h (suc i) l = choice_lt ls cs (choice_head m ls c cs h).1 i (omega arith)

-- slots

-- no variant has a place for the slot
abbrev pub lacks : Slot → Layout → Bool
lacks f ps = not (has ps f)

-- no line but line i has a variant with the slot
unfoldable pub only_in : List Line → ℕ → Slot → Bool
only_in [] i f = true
only_in (l ∷ ls) zero f = every_line (every_variant (lacks f)) ls
only_in (l ∷ ls) (suc i) f = every_variant (lacks f) l && only_in ls i f

pub lacks_layout : (f : Slot) (ls : List Line) (cs : List ℕ) → is_choice ls cs ≡ true → every_line (every_variant (lacks f)) ls ≡ true
    → has (chosen_layout ls cs) f ≡ false
lacks_layout f ls cs o h =
    not-true (has (chosen_layout ls cs) f)
    (layout_passes (lacks f) (unfold has in refl) (λ a b p q. simp (has_append a b f, not-true (has a f) p, not-true (has b f) q)) ls cs o h)

pub found_in : (ls : List Line) (cs : List ℕ) → is_choice ls cs ≡ true → (i : ℕ) (f : Slot) → only_in ls i f ≡ true
    → has (chosen_layout ls cs) f ≡ has (variant_in ls cs i) f
unfolding is_choice only_in chosen_layout
found_in [] [] h i f o = refl
found_in [] (c ∷ cs) h i f o = absurd (false≢true h)
found_in (l ∷ ls) [] h i f o = absurd (false≢true h)
found_in (l ∷ ls) (c ∷ cs) h zero f o = simp (has_append (get_or l c []) (chosen_layout ls cs) f, lacks_layout f ls cs (choice_head l ls c cs h).1 o, or-false)
found_in (l ∷ ls) (c ∷ cs) h (suc i) f o =
    let e = both (every_variant (lacks f) l) (only_in ls i f) o in
    let m = choice_head l ls c cs h in
    let n = not-true (has (get_or l c []) f) (variant_passes (lacks f) l c m.0 e.0) in
    simp (has_append (get_or l c []) (chosen_layout ls cs) f, n) (found_in ls cs m.1 i f e.1)

-- no slot stands in two lines
unfoldable pub stands_once : List Line → Slot → Bool
stands_once [] f = true
stands_once (l ∷ ls) f = (every_variant (lacks f) l || every_line (every_variant (lacks f)) ls) && stands_once ls f

pub apart_chosen : (ls : List Line) (cs : List ℕ) → is_choice ls cs ≡ true → every_line (every_variant apart_layout) ls ≡ true
    → ((f : Slot) → stands_once ls f ≡ true) → apart_layout (chosen_layout ls cs) ≡ true
unfolding every_line chosen_layout stands_once
apart_chosen [] cs w h o = unfold apart_layout in refl
apart_chosen (l ∷ ls) [] w h o = unfold apart_layout in refl
apart_chosen (l ∷ ls) (c ∷ cs) w h o =
    let b = both (every_variant apart_layout l) (every_line (every_variant apart_layout) ls) h in
    let m = choice_head l ls c cs w in
    apart_append (get_or l c []) (chosen_layout ls cs) (variant_passes apart_layout l c m.0 b.0)
    (apart_chosen ls cs m.1 b.1 (λ f. (both (every_variant (lacks f) l || every_line (every_variant (lacks f)) ls) (stands_once ls f) (o f)).1))
    (λ f i. go f i (every_variant (lacks f) l) refl (both (every_variant (lacks f) l || every_line (every_variant (lacks f)) ls) (stands_once ls f) (o f)).0)
  where
    go : (f : Slot) → has (get_or l c []) f ≡ true → (t : Bool) → every_variant (lacks f) l ≡ t → (t || every_line (every_variant (lacks f)) ls) ≡ true
        → has (chosen_layout ls cs) f ≡ false
    go f i true e q = absurd (false≢true (sym (not-true (has (get_or l c []) f) (variant_passes (lacks f) l c (choice_head l ls c cs w).0 e)) ∙ i))
    go f i false e q = lacks_layout f ls cs (choice_head l ls c cs w).1 q

-- what the whole layout has a word for, each line has
pub has_words_in : (ls : List Line) (cs : List ℕ) (v : Values) → has_words (chosen_layout ls cs) v ≡ true → is_choice ls cs ≡ true → (i : ℕ)
    → has_words (variant_in ls cs i) v ≡ true
unfolding is_choice chosen_layout
has_words_in [] [] v h o i = unfold has_words in refl
has_words_in [] (c ∷ cs) v h o i = absurd (false≢true o)
has_words_in (l ∷ ls) [] v h o i = absurd (false≢true o)
has_words_in (l ∷ ls) (c ∷ cs) v h o i =
    let e = both (has_words (get_or l c []) v) (has_words (chosen_layout ls cs) v) (sym (has_words_append (get_or l c []) (chosen_layout ls cs) v) ∙ h) in
    go i e.0 (has_words_in ls cs v e.1 (choice_head l ls c cs o).1)
  where
    go : (i : ℕ) → has_words (get_or l c []) v ≡ true → ((j : ℕ) → has_words (variant_in ls cs j) v ≡ true) → has_words (variant_in (l ∷ ls) (c ∷ cs) i) v ≡ true
    go zero a n = a
    go (suc j) a n = n j
