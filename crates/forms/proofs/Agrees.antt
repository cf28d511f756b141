-- The slots of a field: which of them a layout has, by the kind of the field.
use Rattle.cond.proofs.Kit.{◌∙◌, ◌≡◌, Bool, false, List, not, not-true, sym, true}
use Rattle.forms.specs.Slots.{Slot, among}
use Rattle.forms.proofs.Slots.{Each, each, every, every_in, listed}

-- two tests agree
abbrev pub alike : Bool → Bool → Bool
alike true b = b
alike false b = not b

pub alike_true : (a b : Bool) → alike a b ≡ true → a ≡ b
alike_true true b h = sym h
alike_true false b h = sym (not-true b h)

-- of the slots fs a layout has exactly those of ks
abbrev pub agrees : List Slot → List Slot → (Slot → Bool) → Bool
agrees fs ks has = every fs (λ (f : Slot). alike (has f) (among f ks))

module _ (fs ks : List Slot) (has : Slot → Bool) (h : agrees fs ks has ≡ true) where
  pub agreed : (f : Slot) → among f fs ≡ true → has f ≡ among f ks
  agreed f i = alike_true (has f) (among f ks) (every_in fs (λ (g : Slot). alike (has g) (among g ks)) h f i)

  -- what holds of ks holds of each of fs that the layout has
  pub each_had : (P : Slot → Type 0) → Each P ks → Each (λ (f : Slot). has f ≡ true → P f) fs
  each_had P p = each (λ (f : Slot). has f ≡ true → P f) fs (λ f i j. listed P ks p f (sym (agreed f i) ∙ j))
