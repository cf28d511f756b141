-- The rows of one rack among the first i rows of a table: how many, which is the newest and where it stands.
use Rattle.cond.proofs.Kit.{[], ◌+◌, ◌++◌, ◌<◌, ◌∙◌, ◌∷◌, ◌||◌, ◌≡◌, ◌≤◌, ◌⊎◌, ap, arith, Bool, eqb-false, eqb-true, false, false≢true, inl, inr, length, length-append, List, lt-ltb, ltb, ltb-false, ltb-true, refl, suc, sym, true, zero, ℕ}
use Rattle.cond.proofs.Tests.{both}
use Rattle.runs.specs.declared.Run.{Run}
use Rattle.runs.specs.declared.second.Second.{Second}
use Rattle.runs.specs.Rows.{joins}
use Rattle.runs.proofs.Grown.{follows, follows_snoc}
use Rattle.racks.specs.declared.Row.{Row}
use Rattle.racks.specs.Rows.{is_of, newest, newest_at, others, own, row_at}

pub neither : (a b : Bool) → (a || b) ≡ false → (a ≡ false) × (b ≡ false)
neither true b h = absurd (false≢true (sym h))
neither false b h = (refl, h)

-- row i is one more of rack k and is its newest, or changes nothing of it
module _ (k : ℕ) (rows : List Row) (i : ℕ) where
  pub own_of : is_of k rows i ≡ true → own k rows (suc i) ≡ own k rows i ++ ((row_at rows i).run ∷ [])
  own_of h = rw h

  pub own_not : is_of k rows i ≡ false → own k rows (suc i) ≡ own k rows i
  own_not h = rw h

  pub at_of : is_of k rows i ≡ true → newest_at k rows (suc i) ≡ i
  at_of h = rw h

  pub at_not : is_of k rows i ≡ false → newest_at k rows (suc i) ≡ newest_at k rows i
  at_not h = rw h

  pub newest_of : is_of k rows i ≡ true → newest k rows (suc i) ≡ (row_at rows i).run
  newest_of h = ap (λ (p : ℕ). (row_at rows p).run) (at_of h)

  pub newest_not : is_of k rows i ≡ false → newest k rows (suc i) ≡ newest k rows i
  newest_not h = ap (λ (p : ℕ). (row_at rows p).run) (at_not h)

-- there are no more of them than rows
few_by : (k : ℕ) (rows : List Row) (i : ℕ) (b : Bool) → is_of k rows i ≡ b → length (own k rows i) ≤ i → length (own k rows (suc i)) ≤ suc i
few_by k rows i true h l = rw (own_of k rows i h, length-append) (omega arith)
few_by k rows i false h l = rw (own_not k rows i h) (omega arith)

pub own_few : (k : ℕ) (rows : List Row) (i : ℕ) → length (own k rows i) ≤ i
own_few k rows zero = omega arith
own_few k rows (suc i) = few_by k rows i _ refl (own_few k rows i)

module _ (k : ℕ) (rows : List Row) where
  -- the newest is the last of them
  ends_by : (i : ℕ) (b : Bool) → is_of k rows i ≡ b → (own k rows i ≡ []) ⊎ ((p : List Run) × (own k rows i ≡ p ++ (newest k rows i ∷ [])))
      → (own k rows (suc i) ≡ []) ⊎ ((p : List Run) × (own k rows (suc i) ≡ p ++ (newest k rows (suc i) ∷ [])))
  ends_by i true h e = inr (own k rows i, rw (own_of k rows i h, newest_of k rows i h))
  ends_by i false h e = rw (own_not k rows i h, newest_not k rows i h) e

  pub ends : (i : ℕ) → (own k rows i ≡ []) ⊎ ((p : List Run) × (own k rows i ≡ p ++ (newest k rows i ∷ [])))
  ends zero = inl refl
  ends (suc i) = ends_by i _ refl (ends i)

  -- where it stands
  at_by : (i : ℕ) (b : Bool) → is_of k rows i ≡ b → (0 < length (own k rows i) → (newest_at k rows i < i) × (is_of k rows (newest_at k rows i) ≡ true)) → 0 < length (own k rows (suc i))
      → (newest_at k rows (suc i) < suc i) × (is_of k rows (newest_at k rows (suc i)) ≡ true)
  at_by i true h e l = rw h (omega arith, h)
  at_by i false h e l = let q = e (rw h at l) in rw h (omega (arith, q.0), q.1)

  pub newest_at_lem : (i : ℕ) → 0 < length (own k rows i) → (newest_at k rows i < i) × (is_of k rows (newest_at k rows i) ≡ true)
  newest_at_lem zero l = absurd (omega arith)
  newest_at_lem (suc i) l = at_by i _ refl (newest_at_lem i) l

  lt_by : (i : ℕ) (b : Bool) → is_of k rows i ≡ b → suc i ≤ 64 → newest_at k rows i < 64 → newest_at k rows (suc i) < 64
  lt_by i true h l e = rw h (omega arith)
  lt_by i false h l e = rw h e

  pub newest_lt : (i : ℕ) → i ≤ 64 → newest_at k rows i < 64
  newest_lt zero l = omega arith
  newest_lt (suc i) l = lt_by i _ refl l (newest_lt i (omega arith))

  -- a second is its next
  joins_by : (i : ℕ) (s : Second) → (own k rows i ≡ []) ⊎ ((p : List Run) × (own k rows i ≡ p ++ (newest k rows i ∷ []))) → joins (newest k rows i) (length (own k rows i)) s ≡ follows (own k rows i) s
  unfolding joins
  joins_by i s (inl e) = rw e
  joins_by i s (inr (p, e)) = rw (e, lt-ltb 0 (length (p ++ (newest k rows i ∷ []))) (simp length-append (omega arith)), follows_snoc)

  pub joins_is : (i : ℕ) (s : Second) → joins (newest k rows i) (length (own k rows i)) s ≡ follows (own k rows i) s
  joins_is i s = joins_by i s (ends i)

  pub follows_some : (i : ℕ) (s : Second) → follows (own k rows i) s ≡ true → 0 < length (own k rows i)
  unfolding joins
  follows_some i s h = ltb-true 0 (length (own k rows i)) (both (ltb 0 (length (own k rows i))) _ (joins_is i s ∙ h)).0

-- the two racks have all the rows in use
pub two_only : (n : ℕ) → n ≤ 1 → (n ≡ 0 → ⊥) → (n ≡ 1 → ⊥) → ⊥
two_only zero l p q = p refl
two_only (suc zero) l p q = q refl
two_only (suc (suc n)) l p q = omega arith

count_by : (rows : List Row) (i : ℕ) (b c : Bool) → is_of 0 rows i ≡ b → is_of 1 rows i ≡ c → ltb 1 (row_at rows i).rack ≡ false → length (own 0 rows i) + length (own 1 rows i) ≡ i
    → length (own 0 rows (suc i)) + length (own 1 rows (suc i)) ≡ suc i
count_by rows i true true g h o e = absurd (omega (arith, eqb-true (row_at rows i).rack 0 g, eqb-true (row_at rows i).rack 1 h))
count_by rows i true false g h o e = rw (g, h, length-append) (omega arith)
count_by rows i false true g h o e = rw (g, h, length-append) (omega arith)
count_by rows i false false g h o e = absurd (two_only (row_at rows i).rack (ltb-false 1 (row_at rows i).rack o) (eqb-false (row_at rows i).rack 0 g) (eqb-false (row_at rows i).rack 1 h))

pub count : (rows : List Row) (i : ℕ) → others rows i ≡ false → length (own 0 rows i) + length (own 1 rows i) ≡ i
count rows zero o = refl
count rows (suc i) o = let n = neither (others rows i) _ o in count_by rows i _ _ refl refl n.1 (count rows i n.0)
