-- A line at a column is the line at the head of the part from there on, and a slot is told by the layout that has it.
use Rattle.cond.proofs.Kit.{[], ◌&&◌, ◌++◌, ◌+◌, ◌∙◌, ◌∷◌, ◌≡◌, ap, ap₂, arith, Bool, drop, drop-drop, false, false≢true, List, refl, sym, take, zero-add, ℕ}
use Rattle.cond.specs.Pick.{pick}
use Rattle.cond.proofs.Tests.{either_way}
use Rattle.forms.specs.Block.{Line, variant_at}
use Rattle.forms.specs.Places.{Layout, fits, has, is_of, layout_width, shape, value_at, values, width}
use Rattle.forms.specs.Slots.{Slot}

-- a column

pub drop_column : (j k : ℕ) (s : List ℕ) → drop (j + k) s ≡ drop j (drop k s)
drop_column j k s =
    let e : j + k ≡ k + j = omega arith in
    ap (λ (n : ℕ). drop n s) e ∙ sym (drop-drop j k s)

shape_from : (ps : Layout) (j k : ℕ) (s : List ℕ) → shape ps (j + k) s ≡ shape ps j (drop k s)
unfolding shape
shape_from [] j k s = refl
shape_from (p ∷ ps) j k s =
    let e : width p + (j + k) ≡ width p + j + k = omega arith in
    ap₂ (λ (a b : Bool). a && b) (ap (λ (x : List ℕ). fits p (take (width p) x)) (drop_column j k s))
    (ap (λ (n : ℕ). shape ps n s) e ∙ shape_from ps (width p + j) k s)

values_from : (ps : Layout) (j k : ℕ) (s : List ℕ) (f : Slot) → values ps (j + k) s f ≡ values ps j (drop k s) f
unfolding values
values_from [] j k s f = refl
values_from (p ∷ ps) j k s f =
    let e : width p + (j + k) ≡ width p + j + k = omega arith in
    ap₂ (λ (a b : ℕ). pick (is_of f p) a b) (ap (λ (x : List ℕ). value_at p (take (width p) x)) (drop_column j k s))
    (ap (λ (n : ℕ). values ps n s f) e ∙ values_from ps (width p + j) k s f)

module _ (k : ℕ) (s : List ℕ) where
  pub shape_head : (ps : Layout) → shape ps k s ≡ shape ps 0 (drop k s)
  shape_head ps = ap (λ (n : ℕ). shape ps n s) (sym (zero-add k)) ∙ shape_from ps 0 k s

  pub values_head : (ps : Layout) (f : Slot) → values ps k s f ≡ values ps 0 (drop k s) f
  values_head ps f = ap (λ (n : ℕ). values ps n s f) (sym (zero-add k)) ∙ values_from ps 0 k s f

  pub variant_head : (l : Line) → variant_at l k s ≡ variant_at l 0 (drop k s)
  unfolding variant_at
  variant_head [] = refl
  variant_head (ps ∷ []) = refl
  variant_head (ps ∷ qs ∷ l) = ap₂ (λ (t : Bool) (x : Layout). pick t ps x) (shape_head ps) (variant_head (qs ∷ l))

-- a slot

module _ (s : List ℕ) (f : Slot) where
  pub values_none : (ps : Layout) (k : ℕ) → has ps f ≡ false → values ps k s f ≡ 0
  unfolding has values
  values_none [] k h = refl
  values_none (p ∷ ps) k h =
      either_way (is_of f p) (λ q. absurd (false≢true (sym (rw q at h)))) (λ q. rw q (values_none ps (width p + k) (rw q at h)))

  pub values_append : (a b : Layout) (k : ℕ) → values (a ++ b) k s f ≡ pick (has a f) (values a k s f) (values b (layout_width a + k) s f)
  unfolding has values layout_width
  values_append [] b k = ap (λ (n : ℕ). values b n s f) (sym (zero-add k))
  values_append (p ∷ a) b k =
      let e : layout_width a + (width p + k) ≡ width p + layout_width a + k = omega arith in
      let i = values_append a b (width p + k) ∙ ap (λ (n : ℕ). pick (has a f) (values a (width p + k) s f) (values b n s f)) e in
      either_way (is_of f p) (λ q. simp q) (λ q. rw q i)
