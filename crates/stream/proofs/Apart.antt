-- Valid strings of a form that lie in one list end n or more bytes apart.
use Rattle.std.specs.Prelude.{Option, Some}
use Rattle.cond.proofs.Kit.{◌+◌, ◌-◌, ◌<◌, ◌∙◌, ◌≡◌, add_assoc, arith, drop, get_or-drop, get_or-take, List, sym, ℕ}
use Rattle.stream.specs.Heard.{heard_at}
use Rattle.stream.specs.Strings.{Strings}
use Rattle.stream.specs.Window.{window}
use Rattle.stream.proofs.Heard.{heard_some}

module _ {R : Type 0} (n : ℕ) (valid : List ℕ → Option R) where
  pub ends_apart :
      Strings n valid → (s : List ℕ) (k j : ℕ) (r q : R) → 0 < j → j < n → heard_at n valid s k ≡ Some r → heard_at n valid s (k + j) ≡ Some q → ⊥
  ends_apart law s k j r q h0 h1 e1 e2 =
      let (l1, v1) = heard_some n valid s k r e1 in
      let v2 = (heard_some n valid s (k + j) q e2).1 in
      let at : k + j - n ≡ k - n + j = omega arith in
      law.apart (window n s (k - n)) (window n s (k + j - n)) r q j h0 h1 v1 v2
      (λ i hi.
      let m1 : j + i < n = omega arith in
      let m2 : i < n = omega arith in
      get_or-take n (drop (k - n) s) (j + i) 0 m1 ∙ get_or-drop (k - n) s (j + i) 0
      ∙ sym (get_or-take n (drop (k + j - n) s) i 0 m2 ∙ get_or-drop (k + j - n) s i 0 ∙ rw (at, add_assoc)))
