-- The digits of a place in groups are below their base where the place tells a number below its limit: any other digit makes it tell the limit.
use Rattle.cond.proofs.Kit.{[], ◌+◌, ◌<◌, ◌∙◌, ◌∷◌, ◌≡◌, ◌≤◌, ap, arith, Bool, drop, drop-drop, le-leb, leb, length, List, ltb, ltb-true, refl, take, take-take, true, ℕ}
use Rattle.cond.proofs.Parts.{drop_take}
use Rattle.cond.proofs.Tests.{both, both_hold, either_way}
use Rattle.spelling.specs.Bytes.{Group, all_are, bits_number, digit, digits_below, gap, groups_limit, groups_width}
use Rattle.spelling.specs.Spelling.{grouped, value_of}
use Rattle.spelling.proofs.Spelling.{sized_value}
use Rattle.forms.proofs.Layouts.{piece_length}

abbrev pub is_decimal : ℕ → Bool
is_decimal d = leb d 9

-- the digits of groups that start at element k
unfoldable pub digits_at : ℕ → List Group → List ℕ → List ℕ
digits_at k [] s = []
digits_at k (digit w ∷ gs) s = bits_number (take w (drop k s)) ∷ digits_at (k + w) gs s
digits_at k (gap e ∷ gs) s = digits_at (k + 1) gs s

module _ (s : List ℕ) where
  -- what is behind the first w elements of a part
  rest : (k w n : ℕ) → drop w (take (w + n) (drop k s)) ≡ take n (drop (k + w) s)
  rest k w n = drop_take w n (drop k s) ∙ ap (take n) (drop-drop w k s)

  below_digits : (k : ℕ) (gs : List Group) → digits_below 10 gs (take (groups_width gs) (drop k s)) ≡ true → all_are is_decimal (digits_at k gs s) ≡ true
  unfolding digits_below groups_width all_are digits_at
  below_digits k [] h = refl
  below_digits k (digit w ∷ gs) h =
      let a = both (ltb (bits_number (take w (take (w + groups_width gs) (drop k s)))) 10) _ h in
      let first = take-take w (w + groups_width gs) (drop k s) (omega arith) in
      let d : ℕ = bits_number (take w (drop k s)) in
      let small = ltb-true d 10 (rw first at a.0) in
      both_hold (leb d 9) _ (le-leb d 9 (omega arith)) (below_digits (k + w) gs (rw (rest k w (groups_width gs)) at a.1))
  below_digits k (gap e ∷ gs) h = below_digits (k + 1) gs (rw (rest k 1 (groups_width gs)) at h)

  -- a place that tells a number below its limit has no digit over 9
  pub decimal : (k : ℕ) (gs : List Group) (n : ℕ) → k + groups_width gs ≤ length s → n ≡ value_of (grouped 10 gs) (take (groups_width gs) (drop k s))
      → n < groups_limit 10 gs → all_are is_decimal (digits_at k gs s) ≡ true
  decimal k gs n w e l =
      let x : List ℕ = take (groups_width gs) (drop k s) in
      below_digits k gs
      (either_way (digits_below 10 gs x) (λ q. q)
      (λ q. absurd (omega (arith, rw q at (e ∙ sized_value x (grouped 10 gs) (piece_length k s (groups_width gs) w))))))
