-- A field that some slots tell: of two layouts one behind the other, the one that has a place for these slots tells it.
use Rattle.cond.proofs.Kit.{[], ◌++◌, ◌||◌, ◌∙◌, ◌∷◌, ◌≡◌, add-zero, ap, ap₂, Bool, false, false≢true, fun_ext, List, or-false, refl, sym, true, ℕ}
use Rattle.cond.specs.Pick.{pick}
use Rattle.cond.proofs.Tests.{either_way}
use Rattle.forms.specs.Places.{Layout, has, layout_width, values}
use Rattle.forms.specs.Slots.{Slot, Values, same}
use Rattle.forms.proofs.Append.{has_append}
use Rattle.forms.proofs.Slots.{same_slot}
use Rattle.block_lines.specs.Reading.{has_any}
use Rattle.block.proofs.Columns.{values_append, values_none}

unfoldable pub member : Slot → List Slot → Bool
member f [] = false
member f (g ∷ gs) = same f g || member f gs

-- what is said of these slots alone
abbrev pub only {ℓ} : {A : Type ℓ} → List Slot → A → (Slot → A) → Slot → A
only gs z h f = pick (member f gs) (h f) z

or_none : (a b : Bool) → (a || b) ≡ false → (a ≡ false) × (b ≡ false)
or_none true b h = absurd (false≢true (sym h))
or_none false b h = (refl, h)

pub none_of : (ps : Layout) (gs : List Slot) (f : Slot) → has_any ps gs ≡ false → member f gs ≡ true → has ps f ≡ false
unfolding has_any member
none_of ps [] f h m = absurd (false≢true m)
none_of ps (g ∷ gs) f h m =
    let o = or_none (has ps g) (has_any ps gs) h in
    either_way (same f g) (λ e. ap (has ps) (same_slot f g e) ∙ o.0) (λ e. none_of ps gs f o.1 (rw e at m))

module _ (ps qs : Layout) (s : List ℕ) (gs : List Slot) where
  -- where the layout behind has none of them
  module _ (h : has_any qs gs ≡ false) where
    has_front : only gs false (has (ps ++ qs)) ≡ only gs false (has ps)
    has_front = fun_ext (λ f. either_way (member f gs) (λ e. rw e (has_append ps qs f ∙ simp (none_of qs gs f h e, or-false))) (λ e. simp e))

    values_front : only gs 0 (values (ps ++ qs) 0 s) ≡ only gs 0 (values ps 0 s)
    values_front = fun_ext (λ f. either_way (member f gs) (λ e. rw e (whole f e)) (λ e. simp e))
      where
        whole : (f : Slot) → member f gs ≡ true → values (ps ++ qs) 0 s f ≡ values ps 0 s f
        whole f e =
            values_append s f ps qs 0
            ∙ ap (λ (n : ℕ). pick (has ps f) (values ps 0 s f) n) (values_none s f qs _ (none_of qs gs f h e))
            ∙ either_way (has ps f) (λ t. simp t) (λ t. rw t (sym (values_none s f ps 0 t)))

  -- where the layout in front has none of them
  module _ (h : has_any ps gs ≡ false) where
    has_back : only gs false (has (ps ++ qs)) ≡ only gs false (has qs)
    has_back = fun_ext (λ f. either_way (member f gs) (λ e. rw e (has_append ps qs f ∙ simp (none_of ps gs f h e))) (λ e. simp e))

    values_back : only gs 0 (values (ps ++ qs) 0 s) ≡ only gs 0 (values qs (layout_width ps) s)
    values_back = fun_ext (λ f. either_way (member f gs) (λ e. rw e (values_append s f ps qs 0 ∙ simp (none_of ps gs f h e, add-zero))) (λ e. simp e))

  pub field : {A : Type 0} (F : (Slot → Bool) → Values → A) → ((h : Slot → Bool) (v : Values) → F (only gs false h) (only gs 0 v) ≡ F h v)
      → (has_any qs gs ≡ true → has_any ps gs ≡ false)
      → F (has (ps ++ qs)) (values (ps ++ qs) 0 s) ≡ pick (has_any qs gs) (F (has qs) (values qs (layout_width ps) s)) (F (has ps) (values ps 0 s))
  field F o a =
      either_way (has_any qs gs) (λ e. rw e (sym (o _ _) ∙ ap₂ F (has_back (a e)) (values_back (a e)) ∙ o _ _))
      (λ e. rw e (sym (o _ _) ∙ ap₂ F (has_front e) (values_front e) ∙ o _ _))
