-- What a row that is put into a table does to the rows of its rack and of the other.
use Rattle.cond.proofs.Kit.{[], ◌++◌, ◌<◌, ◌∙◌, ◌∷◌, ◌≡◌, ◌≤◌, ap, arith, Bool, eq-eqb, eqb, eqb-false, eqb-true, false, get_or-set_same, le-ltb, length, List, ne_eqb, refl, set, suc, sym, true, zero, ℕ}
use lib.Seq.{get_or-set_other}
use Rattle.runs.specs.declared.Run.{Run}
use Rattle.runs.specs.declared.second.Second.{Second}
use Rattle.runs.specs.Rows.{longer}
use Rattle.runs.proofs.Grown.{extended, extended_snoc}
use Rattle.racks.specs.declared.Row.{Row}
use Rattle.racks.specs.Rows.{is_of, newest, newest_at, no_row, others, own, row_at}
use Rattle.racks.proofs.Own.{at_not, at_of, neither, newest_at_lem, newest_not, newest_of, own_not, own_of}

-- a row of rack k is put at a place
module _ (k : ℕ) (rows : List Row) (n : Run) where
  abbrev x : Row
  x = record { rack = k; run = n }

  -- below it nothing changes
  below_by : (j p i : ℕ) → i < p → own j (set rows p x) i ≡ own j rows i → own j (set rows p x) (suc i) ≡ own j rows (suc i)
  below_by j p i l e = rw (get_or-set_other rows p i x no_row (λ q. omega arith), e)

  below : (j p i : ℕ) → i ≤ p → own j (set rows p x) i ≡ own j rows i
  below j p zero l = refl
  below j p (suc i) l = below_by j p i (omega arith) (below j p i (omega arith))

  -- behind the rows in use
  pub opened_own : (i : ℕ) → i < length rows → own k (set rows i x) (suc i) ≡ own k rows i ++ (n ∷ [])
  opened_own i l = rw (get_or-set_same rows i x no_row l, eq-eqb k k refl, below k i i (omega arith))

  pub opened_other : (i j : ℕ) → i < length rows → (k ≡ j → ⊥) → own j (set rows i x) (suc i) ≡ own j rows i
  opened_other i j l ne = rw (get_or-set_same rows i x no_row l, ne_eqb k j ne, below j i i (omega arith))

  -- in place of a row of rack k, the rows of another rack stay
  other_by : (p i j : ℕ) (b : Bool) → eqb i p ≡ b → p < length rows → is_of j rows p ≡ false → (k ≡ j → ⊥) → own j (set rows p x) i ≡ own j rows i → own j (set rows p x) (suc i) ≡ own j rows (suc i)
  other_by p i j true h l o ne e =
      let q = eqb-true i p h in
      let a : row_at (set rows p x) i ≡ x = ap (row_at (set rows p x)) q ∙ get_or-set_same rows p x no_row l in
      let b : is_of j rows i ≡ false = ap (is_of j rows) q ∙ o in
      rw (a, ne_eqb k j ne, b) e
  other_by p i j false h l o ne e = rw (get_or-set_other rows p i x no_row (eqb-false i p h), e)

  pub other_own : (p i j : ℕ) → p < length rows → is_of j rows p ≡ false → (k ≡ j → ⊥) → own j (set rows p x) i ≡ own j rows i
  other_own p zero j l o ne = refl
  other_own p (suc i) j l o ne = other_by p i j _ refl l o ne (other_own p i j l o ne)

  -- no row of another rack number comes in
  others_by : (p i : ℕ) (b : Bool) → eqb i p ≡ b → p < length rows → k ≤ 1 → others rows (suc i) ≡ false → others (set rows p x) i ≡ false → others (set rows p x) (suc i) ≡ false
  others_by p i true h l f o e = rw (e, eqb-true i p h, get_or-set_same rows p x no_row l) (le-ltb 1 k f)
  others_by p i false h l f o e = rw (e, get_or-set_other rows p i x no_row (eqb-false i p h)) (neither (others rows i) _ o).1

  pub others_set : (p i : ℕ) → p < length rows → k ≤ 1 → others rows i ≡ false → others (set rows p x) i ≡ false
  others_set p zero l f o = refl
  others_set p (suc i) l f o = others_by p i _ refl l f o (others_set p i l f (neither (others rows i) _ o).0)

  pub opened_others : (i : ℕ) → i < length rows → k ≤ 1 → others rows i ≡ false → others (set rows i x) (suc i) ≡ false
  opened_others i l f o = rw (others_set i i l f o, get_or-set_same rows i x no_row l) (le-ltb 1 k f)

-- in place of the newest row of rack k, its run is extended
abbrev joined_to : ℕ → List Row → Second → ℕ → List Row
joined_to k rows s i = set rows (newest_at k rows i) (record { rack = k; run = longer (newest k rows i) s })

joined_by : (k : ℕ) (rows : List Row) (s : Second) (i : ℕ) (b : Bool) → is_of k rows i ≡ b → i < length rows → 0 < length (own k rows (suc i))
    → (0 < length (own k rows i) → own k (joined_to k rows s i) i ≡ extended (own k rows i) s) → own k (joined_to k rows s (suc i)) (suc i) ≡ extended (own k rows (suc i)) s
joined_by k rows s i true h l f e =
    let moved : joined_to k rows s (suc i) ≡ set rows i (record { rack = k; run = longer (row_at rows i).run s }) = rw (newest_of k rows i h, at_of k rows i h) refl in
    ap (λ (ys : List Row). own k ys (suc i)) moved ∙ opened_own k rows (longer (row_at rows i).run s) i l ∙ sym (extended_snoc (own k rows i) (row_at rows i).run s)
    ∙ ap (λ (ns : List Run). extended ns s) (sym (own_of k rows i h))
joined_by k rows s i false h l f e =
    let g : 0 < length (own k rows i) = rw (own_not k rows i h) at f in
    let same = get_or-set_other rows (newest_at k rows i) i (record { rack = k; run = longer (newest k rows i) s }) no_row (λ q. omega (arith, (newest_at_lem k rows i g).0)) in
    let moved : joined_to k rows s (suc i) ≡ joined_to k rows s i = rw (newest_not k rows i h, at_not k rows i h) refl in
    let kept : is_of k (joined_to k rows s i) i ≡ false = ap (λ (y : Row). eqb y.rack k) same ∙ h in
    ap (λ (ys : List Row). own k ys (suc i)) moved ∙ own_not k (joined_to k rows s i) i kept ∙ e g ∙ ap (λ (ns : List Run). extended ns s) (sym (own_not k rows i h))

pub joined_own : (k : ℕ) (rows : List Row) (s : Second) (i : ℕ) → i ≤ length rows → 0 < length (own k rows i) → own k (joined_to k rows s i) i ≡ extended (own k rows i) s
joined_own k rows s zero l f = absurd (omega arith)
joined_own k rows s (suc i) l f = joined_by k rows s i _ refl (omega arith) f (joined_own k rows s i (omega arith))
