-- How many digits a count has, found digit by digit.
use Rattle.cond.proofs.Kit.{◌+◌, ◌-◌, ◌/◌, ◌<◌, ◌≡◌, ◌≤◌, arith, le-ltb, lt-ltb, ltb, suc, ℕ}
use Rattle.cond.specs.Pick.{pick}
use Rattle.cond.proofs.Tests.{either_way}
use Rattle.report.specs.Summary.{places_of, places_up_to}

-- behind k - 1 digits, `rest` tells the others
pub record Counting (n rest k : ℕ) : Type 0 where
  pub some_place : 0 < k
  pub most : k ≤ 20
  pub others : k - 1 + places_up_to (21 - k) rest ≡ places_of n

pub counting : (n : ℕ) → Counting n n 1
unfolding places_of
counting n = record { some_place = omega arith; most = omega arith; others = omega arith }

module _ (n rest k : ℕ) (i : Counting n rest k) where
  pub last_digit : rest < 10 → k ≡ places_of n
  unfolding places_up_to
  last_digit l =
      let e : 21 - k ≡ suc (20 - k) = omega (arith, i.some_place, i.most) in
      let h : k - 1 + 1 ≡ places_of n = rw (e, lt-ltb rest 10 l) at i.others in
      omega (arith, i.some_place)

  pub twentieth : 20 ≤ k → k ≡ places_of n
  unfolding places_up_to
  twentieth l =
      let e : 21 - k ≡ suc 0 = omega (arith, i.most) in
      let h : k - 1 + pick (ltb rest 10) 1 (0 + 1) ≡ places_of n = rw e at i.others in
      either_way (ltb rest 10) (λ t. omega (arith, i.some_place, rw t at h)) (λ t. omega (arith, i.some_place, rw t at h))

  pub one_digit_more : k < 20 → 10 ≤ rest → Counting n (rest / 10) (k + 1)
  unfolding places_up_to
  one_digit_more l m =
      let e : 21 - k ≡ suc (21 - (k + 1)) = omega (arith, i.most) in
      let h : k - 1 + (places_up_to (21 - (k + 1)) (rest / 10) + 1) ≡ places_of n = rw (e, le-ltb rest 10 m) at i.others in
      record { some_place = omega arith; most = omega arith; others = omega (arith, i.some_place) }
