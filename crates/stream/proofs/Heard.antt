-- What a byte hands out depends on its window alone: on no byte before it and on none behind it.
use Rattle.std.specs.Prelude.{Option, None, Some}
use Rattle.cond.proofs.Kit.{[], ◌++◌, ◌+◌, ◌-◌, ◌<◌, ◌∙◌, ◌≡◌, ◌≤◌, arith, drop, drop-append-add, drop-append-le, drop-drop, le-leb, leb, leb-false, leb-true, length, length-drop, List, lt-leb, sym, take-append-le, zero-add, ℕ}
use Rattle.cond.proofs.Tests.{either_way}
use Rattle.stream.specs.Heard.{heard_at}
use Rattle.stream.specs.Window.{window}

module _ {R : Type 0} (n : ℕ) (valid : List ℕ → Option R) where
  -- before n bytes there is nothing
  pub heard_short : (s : List ℕ) (k : ℕ) → k < n → heard_at n valid s k ≡ None
  unfolding heard_at
  heard_short s k l = rw (lt-leb n k l)

  -- from n bytes on there is what the window says
  pub heard_window : (s : List ℕ) (k : ℕ) → n ≤ k → heard_at n valid s k ≡ valid (window n s (k - n))
  unfolding heard_at
  heard_window s k l = rw (le-leb n k l)

  -- the same by the window's place
  pub heard_place : (s : List ℕ) (p : ℕ) → heard_at n valid s (p + n) ≡ valid (window n s p)
  heard_place s p =
      let e : p + n - n ≡ p = omega arith in
      heard_window s (p + n) (omega arith) ∙ rw e

  -- a record is that of a valid window
  pub heard_some : (s : List ℕ) (k : ℕ) (r : R) → heard_at n valid s k ≡ Some r → (n ≤ k) × (valid (window n s (k - n)) ≡ Some r)
  heard_some s k r h =
      either_way (leb n k) (λ e. (leb-true n k e, sym (heard_window s k (leb-true n k e)) ∙ h))
      (λ e.
      let z = heard_short s k (leb-false n k e) in
      absurd (let y : ◌≡◌ {A = ℕ} 0 1 = cc in omega arith))

  -- the bytes of a piece hand out what they hand out by themselves, from byte n of it on
  pub heard_inside :
      (a piece c : List ℕ) (k : ℕ) → n ≤ k → k ≤ length piece
      → heard_at n valid (a ++ (piece ++ c)) (length a + k) ≡ heard_at n valid piece k
  heard_inside a piece c k h l =
      let e : length a + k - n ≡ length a + (k - n) = omega arith in
      let l1 : k - n ≤ length piece = omega arith in
      let l2 : n ≤ length (drop (k - n) piece) = rw length-drop (omega arith) in
      heard_window (a ++ (piece ++ c)) (length a + k) (omega arith)
      ∙ rw (e, drop-append-add a (piece ++ c) (k - n), drop-append-le (k - n) piece c l1, take-append-le n (drop (k - n) piece) c l2)
      (sym (heard_window piece k h))

  -- what comes later changes nothing
  pub heard_stays : (s t : List ℕ) (k : ℕ) → k ≤ length s → heard_at n valid (s ++ t) k ≡ heard_at n valid s k
  heard_stays s t k l =
      either_way (leb n k) (λ e. rw zero-add at (heard_inside [] s t k (leb-true n k e) l))
      (λ e. heard_short (s ++ t) k (leb-false n k e) ∙ sym (heard_short s k (leb-false n k e)))

  -- "Where two lists for one form share a piece"
  pub shared :
      (a piece c a' c' : List ℕ) (k : ℕ) → n ≤ k → k ≤ length piece
      → heard_at n valid (a ++ (piece ++ c)) (length a + k) ≡ heard_at n valid (a' ++ (piece ++ c')) (length a' + k)
  shared a piece c a' c' k h l = heard_inside a piece c k h l ∙ sym (heard_inside a' piece c' k h l)

  -- "A listener started behind i bytes"
  pub later : (s : List ℕ) (i k : ℕ) → n ≤ k → heard_at n valid (drop i s) k ≡ heard_at n valid s (i + k)
  later s i k h =
      let e : i + (k - n) ≡ i + k - n = omega arith in
      heard_window (drop i s) k h ∙ rw (drop-drop, e) (sym (heard_window s (i + k) (omega arith)))
