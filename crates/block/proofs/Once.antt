-- Lines of which no two tell the same field: what the lines so far tell, the lines behind them do not.
use Rattle.cond.proofs.Kit.{[], ◌&&◌, ◌++◌, ◌||◌, ◌∙◌, ◌∷◌, ◌≡◌, ap, Bool, false, false≢true, get_or, List, not, not-true, refl, suc, sym, true, zero, ℕ}
use Rattle.cond.proofs.Tests.{both}
use Rattle.forms.specs.Block.{Line, variant_at}
use Rattle.forms.specs.Places.{Layout, has}
use Rattle.forms.specs.Slots.{Slot}
use Rattle.forms.proofs.Append.{has_append}
use Rattle.forms.proofs.Variants.{choice_at_lem, choice_at, variant_at_lem, nonempty}
use Rattle.forms.proofs.Lines.{every_variant, every_line, variant_passes}
use Rattle.block_lines.specs.Reading.{has_any}

-- what every variant of a line passes, the one found passes
pub found_passes : (t : Layout → Bool) (l : Line) (k : ℕ) (s : List ℕ) → nonempty l ≡ true → every_variant t l ≡ true → t (variant_at l k s) ≡ true
found_passes t l k s n h = rw (variant_at_lem l k s) (variant_passes t l (choice_at l k s) (choice_at_lem l k s n) h)

or_middle : (a b c d : Bool) → ((a || b) || (c || d)) ≡ ((a || c) || (b || d))
or_middle true b c d = refl
or_middle false true true d = refl
or_middle false true false d = refl
or_middle false false c d = refl

pub any_append : (ps qs : Layout) (gs : List Slot) → has_any (ps ++ qs) gs ≡ (has_any ps gs || has_any qs gs)
unfolding has_any
any_append ps qs [] = refl
any_append ps qs (g ∷ gs) = simp (has_append ps qs g, any_append ps qs gs) (or_middle (has ps g) (has qs g) (has_any ps gs) (has_any qs gs))

abbrev pub without : List Slot → Layout → Bool
without gs ps = not (has_any ps gs)

abbrev none_in : List Slot → List Line → Bool
none_in gs ls = every_line (every_variant (without gs)) ls

-- no two lines tell the field
unfoldable pub placed_once : List Line → List Slot → Bool
placed_once [] gs = true
placed_once (l ∷ ls) gs = (every_variant (without gs) l || none_in gs ls) && placed_once ls gs

-- the layout or the lines behind it do not tell the field
abbrev pub clear : Layout → List Line → List Slot → Bool
clear ps ls gs = not (has_any ps gs) || none_in gs ls

here : (p h a b : Bool) → (a ≡ true → h ≡ false) → (not p || (a && b)) ≡ true → h ≡ true → p ≡ false
here true h true b q c e = absurd (false≢true (sym (q refl) ∙ e))
here true h false b q c e = absurd (false≢true c)
here false h a b q c e = refl

next : (p h a b : Bool) → (a ≡ true → h ≡ false) → (not p || (a && b)) ≡ true → (a || b) ≡ true → (not (p || h) || b) ≡ true
next true h true b q c o = c
next true h false b q c o = absurd (false≢true c)
next false true true b q c o = absurd (false≢true (sym (q refl)))
next false true false b q c o = o
next false false a b q c o = refl

module _ (ps : Layout) (l : Line) (ls : List Line) (k : ℕ) (s : List ℕ) (f : nonempty l ≡ true) (gs : List Slot) (c : clear ps (l ∷ ls) gs ≡ true) where
  found_without : every_variant (without gs) l ≡ true → has_any (variant_at l k s) gs ≡ false
  found_without h = not-true _ (found_passes (without gs) l k s f h)

  pub apart_here : has_any (variant_at l k s) gs ≡ true → has_any ps gs ≡ false
  unfolding every_line
  apart_here h = here (has_any ps gs) (has_any (variant_at l k s) gs) (every_variant (without gs) l) (none_in gs ls) found_without c h

  pub clear_next : placed_once (l ∷ ls) gs ≡ true → clear (ps ++ variant_at l k s) ls gs ≡ true
  unfolding every_line placed_once
  clear_next o =
      ap (λ (t : Bool). not t || none_in gs ls) (any_append ps (variant_at l k s) gs)
      ∙ next (has_any ps gs) (has_any (variant_at l k s) gs) (every_variant (without gs) l) (none_in gs ls) found_without c
      (both (every_variant (without gs) l || none_in gs ls) (placed_once ls gs) o).0

pub rest_once : (l : Line) (ls : List Line) (gs : List Slot) → placed_once (l ∷ ls) gs ≡ true → placed_once ls gs ≡ true
unfolding placed_once
rest_once l ls gs o = (both (every_variant (without gs) l || none_in gs ls) (placed_once ls gs) o).1

-- each field is told by one line at most
unfoldable pub every_group : (List Slot → Bool) → List (List Slot) → Bool
every_group t [] = t []
every_group t (g ∷ gs) = t g && every_group t gs

pub group_passes : (t : List Slot → Bool) (gs : List (List Slot)) → every_group t gs ≡ true → (n : ℕ) → t (get_or gs n []) ≡ true
unfolding every_group
group_passes t [] h n = h
group_passes t (g ∷ gs) h zero = (both (t g) (every_group t gs) h).0
group_passes t (g ∷ gs) h (suc n) = group_passes t gs (both (t g) (every_group t gs) h).1 n
