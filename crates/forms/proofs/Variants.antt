-- Reading lines: the layout found in the bytes is a chosen layout, and where no two variants of a line fit the same bytes, a chosen
-- layout that fits them is the layout found.
use Rattle.cond.proofs.Kit.{[], ◌&&◌, ◌++◌, ◌+◌, ◌<◌, ◌∙◌, ◌∷◌, ◌≡◌, ◌≤◌, ap, ap₂, arith, Bool, false≢true, get_or, length, List, lt-ltb, ltb, ltb-true, refl, suc, sym, true, zero, ℕ}
use Rattle.cond.specs.Pick.{pick}
use Rattle.cond.proofs.Tests.{both, both_hold, either_way}
use Rattle.forms.specs.Block.{Line, chosen_layout, variant_at, layout_at}
use Rattle.forms.specs.Form.{Form}
use Rattle.forms.specs.Places.{Layout, layout_width, shape}
use Rattle.forms.proofs.Append.{shape_append, width_append}
use Rattle.forms.proofs.Clash.{clash_below, never_both}
use Rattle.forms.proofs.Lines.{every_line, is_choice}

-- the form of a layout that has no sum
abbrev pub form_of : Layout → Form
form_of ps = record { size = layout_width ps; layout = ps; checksums = [] }

-- which variant the reader takes for a line, and for each of the lines
unfoldable pub choice_at : Line → ℕ → List ℕ → ℕ
choice_at [] k s = 0
choice_at (ps ∷ []) k s = 0
choice_at (ps ∷ qs ∷ l) k s = pick (shape ps k s) 0 (suc (choice_at (qs ∷ l) k s))

unfoldable pub choices_at : List Line → ℕ → List ℕ → List ℕ
choices_at [] k s = []
choices_at (l ∷ ls) k s = choice_at l k s ∷ choices_at ls (layout_width (variant_at l k s) + k) s

pub variant_at_lem : (l : Line) (k : ℕ) (s : List ℕ) → variant_at l k s ≡ get_or l (choice_at l k s) []
unfolding variant_at choice_at
variant_at_lem [] k s = refl
variant_at_lem (ps ∷ []) k s = refl
variant_at_lem (ps ∷ qs ∷ l) k s = either_way (shape ps k s) (λ e. simp e) (λ e. rw e (variant_at_lem (qs ∷ l) k s))

pub layout_at_lem : (ls : List Line) (k : ℕ) (s : List ℕ) → layout_at ls k s ≡ chosen_layout ls (choices_at ls k s)
unfolding layout_at choices_at chosen_layout
layout_at_lem [] k s = refl
layout_at_lem (l ∷ ls) k s = ap₂ (λ (a b : Layout). a ++ b) (variant_at_lem l k s) (layout_at_lem ls (layout_width (variant_at l k s) + k) s)

abbrev pub nonempty : Line → Bool
nonempty l = ltb 0 (length l)

pub choice_at_lem : (l : Line) (k : ℕ) (s : List ℕ) → nonempty l ≡ true → choice_at l k s < length l
unfolding choice_at
choice_at_lem [] k s h = ltb-true 0 0 h
choice_at_lem (ps ∷ []) k s h = omega arith
choice_at_lem (ps ∷ qs ∷ l) k s h =
    let i = choice_at_lem (qs ∷ l) k s (lt-ltb 0 (suc (length l)) (omega arith)) in
    either_way (shape ps k s) (λ e. rw e (omega arith)) (λ e. rw e (omega arith))

pub choices_at_lem : (ls : List Line) (k : ℕ) (s : List ℕ) → every_line nonempty ls ≡ true → is_choice ls (choices_at ls k s) ≡ true
unfolding every_line is_choice choices_at
choices_at_lem [] k s h = refl
choices_at_lem (l ∷ ls) k s h =
    let e = both (nonempty l) (every_line nonempty ls) h in
    both_hold _ _ (lt-ltb (choice_at l k s) (length l) (choice_at_lem l k s e.0)) (choices_at_lem ls (layout_width (variant_at l k s) + k) s e.1)

-- no two variants of a line fit the same bytes

unfoldable pub clashes_with : Layout → Line → Bool
clashes_with ps [] = true
clashes_with ps (qs ∷ l) = clash_below (layout_width qs) ps qs && clashes_with ps l

unfoldable pub is_distinct : Line → Bool
is_distinct [] = true
is_distinct (ps ∷ l) = clashes_with ps l && is_distinct l

module _ (k : ℕ) (s : List ℕ) where
  other_fits : (ps : Layout) (l : Line) (c : ℕ) → clashes_with ps l ≡ true → c < length l → shape (get_or l c []) k s ≡ true
      → k + layout_width (get_or l c []) ≤ length s → shape ps k s ≡ true → ⊥
  unfolding clashes_with
  other_fits ps [] c d l h m g = omega (arith, l)
  other_fits ps (qs ∷ l) zero d b h m g = never_both (layout_width qs) ps qs k s (both (clash_below (layout_width qs) ps qs) (clashes_with ps l) d).0 m g h
  other_fits ps (qs ∷ l) (suc c) d b h m g = other_fits ps l c (both (clash_below (layout_width qs) ps qs) (clashes_with ps l) d).1 (omega arith) h m g

  variant_found : (l : Line) (c : ℕ) → is_distinct l ≡ true → c < length l → shape (get_or l c []) k s ≡ true
      → k + layout_width (get_or l c []) ≤ length s → variant_at l k s ≡ get_or l c []
  unfolding is_distinct variant_at
  variant_found [] c d b h m = absurd (omega (arith, b))
  variant_found (ps ∷ []) zero d b h m = refl
  variant_found (ps ∷ []) (suc c) d b h m = absurd (omega arith)
  variant_found (ps ∷ qs ∷ l) zero d b h m = simp h
  variant_found (ps ∷ qs ∷ l) (suc c) d b h m =
      let e = both (clashes_with ps (qs ∷ l)) (is_distinct (qs ∷ l)) d in
      either_way (shape ps k s) (λ t. absurd (other_fits ps (qs ∷ l) c e.0 (omega arith) h m t))
      (λ t. rw t (variant_found (qs ∷ l) c e.1 (omega arith) h m))

pub layout_found : (ls : List Line) (cs : List ℕ) (k : ℕ) (s : List ℕ) → every_line is_distinct ls ≡ true → is_choice ls cs ≡ true
    → shape (chosen_layout ls cs) k s ≡ true → k + layout_width (chosen_layout ls cs) ≤ length s → layout_at ls k s ≡ chosen_layout ls cs
unfolding every_line is_choice chosen_layout layout_at
layout_found [] [] k s d o h m = refl
layout_found [] (c ∷ cs) k s d o h m = refl
layout_found (l ∷ ls) [] k s d o h m = absurd (false≢true o)
layout_found (l ∷ ls) (c ∷ cs) k s d o h m =
    let x = both (is_distinct l) (every_line is_distinct ls) d in
    let y = both (ltb c (length l)) (is_choice ls cs) o in
    let z = both (shape (get_or l c []) k s) (shape (chosen_layout ls cs) (layout_width (get_or l c []) + k) s) (sym (shape_append (get_or l c []) (chosen_layout ls cs) k s) ∙ h) in
    let w = width_append (get_or l c []) (chosen_layout ls cs) in
    let here = variant_found k s l c x.0 (ltb-true c (length l) y.0) z.0 (omega arith) in
    let there = layout_found ls cs (layout_width (get_or l c []) + k) s x.1 y.1 z.1 (omega arith) in
    ap (λ (a : Layout). a ++ layout_at ls (layout_width a + k) s) here ∙ ap (λ (b : Layout). get_or l c [] ++ b) there
