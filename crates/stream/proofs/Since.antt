-- There is one distance since the last record: the record that ends a shorter one would stand among the bytes that handed out nothing.
use Rattle.std.specs.Prelude.{Option}
use Rattle.cond.proofs.Kit.{◌-◌, ◌<◌, ◌≡◌, arith, length, List, ℕ}
use Rattle.stream.specs.Distance.{Since}
use Rattle.stream.proofs.Heard.{heard_some}

module _ {R : Type 0} (n : ℕ) (valid : List ℕ → Option R) (s : List ℕ) where
  not_shorter : (d e : ℕ) → Since n valid s d → Since n valid s e → d < e → ⊥
  not_shorter d e a b l =
      let last = a.last_there (omega (arith, b.capped)) in
      let fits = (heard_some n valid s (length s - d) last.0 last.1).0 in
      let none_there = b.none_since d l (omega (arith, b.capped)) in
      let there = last.1 in
      let z : ◌≡◌ {A = ℕ} 0 1 = cc in
      omega arith

  pub one_distance : (d e : ℕ) → Since n valid s d → Since n valid s e → d ≡ e
  one_distance d e a b = omega (arith, not_shorter d e a b, not_shorter e d b a)
