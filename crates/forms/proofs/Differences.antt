-- Two strings that are alike but for two bytes differ at the places of these, or at none.
use Rattle.cond.proofs.Kit.{[], ◌++◌, ◌+◌, ◌∙◌, ◌∷◌, ◌≡◌, ap, arith, Bool, eq-eqb, eqb, false, length, List, refl, suc, sym, true, zero-add, ℕ}
use Rattle.cond.specs.Pick.{pick}
use Rattle.forms.specs.FrameSigns.{differences}

none_differs : (k : ℕ) (xs : List ℕ) → differences k xs xs ≡ []
unfolding differences
none_differs k [] = refl
none_differs k (x ∷ xs) = simp (eq-eqb x x refl) (none_differs (suc k) xs)

behind_front : (a xs ys : List ℕ) (k : ℕ) → differences k (a ++ xs) (a ++ ys) ≡ differences (length a + k) xs ys
unfolding differences
behind_front [] xs ys k = ap (λ (n : ℕ). differences n xs ys) (sym (zero-add k))
behind_front (x ∷ a) xs ys k =
    let e : length a + suc k ≡ suc (length a) + k = omega arith in
    simp (eq-eqb x x refl) (behind_front a xs ys (suc k) ∙ ap (λ (n : ℕ). differences n xs ys) e)

at_head : (x y : ℕ) (xs ys : List ℕ) (k : ℕ) → differences k (x ∷ xs) (y ∷ ys) ≡ pick (eqb x y) (differences (suc k) xs ys) (k ∷ differences (suc k) xs ys)
unfolding differences
at_head x y xs ys k = refl

module _ (a b c : List ℕ) (p q s t : ℕ) where
  pub two_differ : length a ≡ 64 → length b ≡ 10 → eqb s t ≡ eqb p q
      → differences 0 (a ++ (p ∷ (b ++ (s ∷ c)))) (a ++ (q ∷ (b ++ (t ∷ c)))) ≡ pick (eqb p q) [] (64 ∷ 75 ∷ [])
  two_differ l m e = simp (behind_front, at_head, none_differs, l, m, e) (go (eqb p q))
    where
      go : (z : Bool) → pick {A = List ℕ} z (pick z [] (75 ∷ [])) (64 ∷ pick z [] (75 ∷ [])) ≡ pick z [] (64 ∷ 75 ∷ [])
      go true = refl
      go false = refl
