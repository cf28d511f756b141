-- A part of a slice from a place, so many bytes wide, and pairs of digits tested in one.
use Rattle.cond.proofs.Kit.{[], ◌&&◌, ◌+◌, ◌-◌, ◌<◌, ◌∙◌, ◌∷◌, ◌≡◌, ◌≤◌, and_assoc, and-false, ap, arith, Bool, drop, drop_of_length-le, false, length, length-drop, length-take, List, ne_eqb, sym, take, take_all, take-nil, take-take, ℕ}
use Rattle.cond.proofs.Parts.{inner_part}
use Rattle.spelling.specs.Bytes.{same_bytes}
use Rattle.spelling.specs.Spelling.{digits, is_spelled}
use Rattle.places.specs.Places.{pairs_at}

pub part : (s : List ℕ) (at w : ℕ) → take (at + w - at) (drop at s) ≡ take w (drop at s)
part s at w =
    let e : at + w - at ≡ w = omega arith in
    ap (λ (n : ℕ). take n (drop at s)) e

-- a part that ends with the slice
pub part_rest : (s : List ℕ) (at w : ℕ) → length s - at < w → take (length s - at) (drop at s) ≡ take w (drop at s)
part_rest s at w h =
    let l = length-drop at s in
    take_all (length s - at) (drop at s) (omega arith) ∙ sym (take_all w (drop at s) (omega arith))

-- nothing stands behind the end
pub part_behind : (s : List ℕ) (at w : ℕ) → length s < at → take (length s - length s) (drop (length s) s) ≡ take w (drop at s)
part_behind s at w h =
    let e : length s ≤ length s = omega arith in
    let f : length s ≤ at = omega arith in
    rw (drop_of_length-le s e, drop_of_length-le s f, take-nil, take-nil)

-- three numbers of two digits with a separator between them, tested in the eight bytes of their place
module _ (s : List ℕ) (k b : ℕ) (x : List ℕ) (e : x ≡ take 8 (drop k s)) where
  -- where the bytes are fewer, the last number is not all there
  pub no_pairs : (length x ≡ 8 → ⊥) → false ≡ pairs_at s k b
  unfolding is_spelled
  no_pairs h =
      let l = length-take 8 (drop k s) in
      let m = length-take 2 (drop (k + 6) s) in
      let n : length x ≡ length (take 8 (drop k s)) = ap length e in
      simp (ne_eqb (length (take 2 (drop (k + 6) s))) 2 (λ q. h (omega (arith, n, l, m, q, length-drop k s, length-drop (k + 6) s))), and-false)

  pub pairs : (c d f g h : Bool) → c ≡ is_spelled (digits 2) (take 2 (drop 0 x)) → d ≡ same_bytes (take 1 (drop 2 x)) (b ∷ []) → f ≡ is_spelled (digits 2) (take 2 (drop 3 x))
      → g ≡ same_bytes (take 1 (drop 5 x)) (b ∷ []) → h ≡ is_spelled (digits 2) (take 2 (drop 6 x)) → (c && d && f && g && h) ≡ pairs_at s k b
  pairs c d f g h u v w y z =
      simp (and_assoc, u, v, w, y, z, e, take-take 2 8 (drop k s) (omega arith), inner_part s k 8 2 1 (omega arith), inner_part s k 8 3 2 (omega arith), inner_part s k 8 5 1 (omega arith), inner_part s k 8 6 2 (omega arith))
