-- A list has no more strings than its bytes allow, and a piece behind fewer than n bytes no more than it has bytes itself.
use Rattle.std.specs.Prelude.{Option}
use Rattle.cond.proofs.Kit.{◌*◌, ◌+◌, ◌<◌, ◌≡◌, ◌≤◌, arith, le-mul_of_pos_right, length, List, mul_comm, mul-suc, refl, suc, zero, ℕ}
use Rattle.stream.specs.Search.{Found, first_from, found, go_on, not_found, search_from, search_times}
use Rattle.stream.proofs.Search.{found_first}

module _ {R : Type 0} (n : ℕ) (valid : List ℕ → Option R) where
  few_times : (s : List ℕ) (t start : ℕ) → start ≤ length s → start + n * length (search_times n valid t s start) ≤ length s
  unfolding search_times
  few_times s zero start l = let z : n * 0 ≡ 0 = omega arith in rw z (omega arith)
  few_times s (suc t) start l = go (first_from n valid s start) refl (λ p h. few_times s t (p + n) h)
    where
      go : (f : Found R) → first_from n valid s start ≡ f → ((p : ℕ) → p + n ≤ length s → p + n + n * length (search_times n valid t s (p + n)) ≤ length s)
          → start + n * length (go_on f (λ p. search_times n valid t s (p + n))) ≤ length s
      go not_found e again = let z : n * 0 ≡ 0 = omega arith in rw z (omega arith)
      go (found p r) e again =
          let f = found_first n valid s start p r e in
          let h = again p f.inside in
          rw mul-suc (omega (arith, f.from_start))

  pub few : (s : List ℕ) (k m : ℕ) → k < n → length s ≡ k + m → length (search_from n valid s 0) ≤ m
  unfolding search_from
  few s k m l e = go (length (search_times n valid (length s) s 0)) (few_times s (length s) 0 (omega arith))
    where
      go : (c : ℕ) → 0 + n * c ≤ length s → c ≤ m
      go zero h = omega arith
      go (suc c) h =
          let f = rw mul-suc at h in
          let g : c ≤ n * c = rw mul_comm (le-mul_of_pos_right c (omega arith)) in
          omega arith
