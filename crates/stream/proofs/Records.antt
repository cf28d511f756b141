-- The list of what the bytes hand out: its entries, and its records.
use Rattle.std.specs.Prelude.{Option, None}
use Rattle.cond.proofs.Kit.{◌+◌, ◌-◌, ◌<◌, ◌≡◌, ◌≤◌, ap, arith, drop, get_or, length, List, refl, suc, zero, ℕ}
use Rattle.stream.specs.Answer.{answer_at, handed_out, nothing, records_of}
use Rattle.stream.specs.Heard.{heard_all, heard_at, heard_from}
use Rattle.stream.proofs.Heard.{later}

module _ {R : Type 0} (n : ℕ) (valid : List ℕ → Option R) where
  pub length_heard : (s : List ℕ) (c k : ℕ) → length (heard_from n valid s c k) ≡ c
  unfolding heard_from
  length_heard s zero k = refl
  length_heard s (suc c) k = ap suc (length_heard s c (k + 1))

  heard_from_lem : (s : List ℕ) (c k i : ℕ) → i < c → get_or (heard_from n valid s c k) i nothing ≡ handed_out (heard_at n valid s (k + i))
  unfolding heard_from
  heard_from_lem s zero k i l = absurd (omega arith)
  heard_from_lem s (suc c) k zero l = let e : k + 0 ≡ k = omega arith in rw e
  heard_from_lem s (suc c) k (suc i) l =
      let e : k + 1 + i ≡ k + suc i = omega arith in
      rw e at (heard_from_lem s c (k + 1) i (omega arith))

  pub heard_all_lem : (s : List ℕ) (k : ℕ) → 0 < k → k ≤ length s → answer_at (heard_all n valid s) k ≡ handed_out (heard_at n valid s k)
  unfolding heard_all
  heard_all_lem s k h l =
      let e : 1 + (k - 1) ≡ k = omega arith in
      rw e at (heard_from_lem s (length s) 1 (k - 1) (omega arith))

  -- the list of a later start
  pub later_from : (s : List ℕ) (i c k : ℕ) → n ≤ k → heard_from n valid (drop i s) c k ≡ heard_from n valid s c (i + k)
  unfolding heard_from
  later_from s i zero k h = refl
  later_from s i (suc c) k h =
      let e : i + (k + 1) ≡ i + k + 1 = omega arith in
      rw (later n valid s i k h, later_from s i c (k + 1) (omega arith), e)

  -- bytes that hand out nothing add no record
  pub skip :
      (s : List ℕ) (e c k : ℕ) → ((i : ℕ) → i < e → heard_at n valid s (k + i) ≡ None)
      → records_of (heard_from n valid s c k) ≡ records_of (heard_from n valid s (c - e) (k + e))
  unfolding heard_from records_of
  skip s zero c k h = let z : c - 0 ≡ c = omega arith in let y : k + 0 ≡ k = omega arith in rw (z, y)
  skip s (suc e) zero k h = let z : 0 - suc e ≡ 0 = omega arith in rw z
  skip s (suc e) (suc c) k h =
      let z : suc c - suc e ≡ c - e = omega arith in
      let y : k + suc e ≡ k + 1 + e = omega arith in
      let first : k + 0 ≡ k = omega arith in
      let none_first : heard_at n valid s k ≡ None = rw first at (h 0 (omega arith)) in
      rw (none_first, z, y)
      (skip s e c (k + 1) (λ i l.
      let x : k + 1 + i ≡ k + suc i = omega arith in
      rw x (h (suc i) (omega arith))))
