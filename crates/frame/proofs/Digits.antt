-- The part of a string at a place begins with its first group and goes on behind it, so each group is tested and read at its own place.
use Rattle.forms.proofs.Layouts.{piece_length}
use Rattle.spelling.proofs.Spelling.{sized_value}
use Rattle.spelling.specs.Spelling.{bits, grouped, is_spelled, value_of}
use Rattle.cond.proofs.Kit.{[], ◌&&◌, ◌*◌, ◌+◌, ◌<◌, ◌∙◌, ◌∷◌, ◌≡◌, ◌≤◌, and-false, ap, ap₂, arith, Bool, drop, drop-drop, eq-eqb, eqb, eqb-false, eqb-true, false, length, length-append, length-take, List, ltb, ltb-true, min-le_left, mul-le-mul_right, ne_eqb, refl, take, take-add, take-take, true, ℕ}
use Rattle.cond.specs.Pick.{pick}
use Rattle.cond.proofs.Parts.{drop_take}
use Rattle.cond.proofs.Tests.{both, either_way}
use Rattle.spelling.specs.Bytes.{Group, are_groups, bits_number, digit, digits_below, gap, groups_number, groups_width, same_bytes, all_are, is_bit, groups_limit}

-- the first group of a part, and what is behind it
module _ (s : List ℕ) (k w n : ℕ) where
  front : take w (take (w + n) (drop k s)) ≡ take w (drop k s)
  front = take-take w (w + n) (drop k s) (omega arith)

  back : drop w (take (w + n) (drop k s)) ≡ take n (drop (k + w) s)
  back = drop_take w n (drop k s) ∙ ap (take n) (drop-drop w k s)

-- two parts that are no longer than asked are as long where each of them is
both_long : (a b m n : ℕ) → a ≤ m → b ≤ n → eqb (a + b) (m + n) ≡ (eqb a m && eqb b n)
both_long a b m n h i =
    either_way (eqb a m)
    (λ e.
    either_way (eqb b n)
    (λ f. simp (e, f) (eq-eqb (a + b) (m + n) (omega (arith, eqb-true a m e, eqb-true b n f))))
    (λ f. simp (e, f) (ne_eqb (a + b) (m + n) (λ q. eqb-false b n f (omega (arith, eqb-true a m e))))))
    (λ e. simp e (ne_eqb (a + b) (m + n) (λ q. eqb-false a m e (omega arith))))

sizes : (w n : ℕ) (y : List ℕ) → eqb (length (take (w + n) y)) (w + n) ≡ (eqb (length (take w y)) w && eqb (length (take n (drop w y))) n)
sizes w n y =
    ap (λ (m : ℕ). eqb m (w + n)) (ap length (take-add w n y) ∙ length-append (take w y) (take n (drop w y)))
    ∙ both_long (length (take w y)) (length (take n (drop w y))) w n (omega (arith, length-take w y, min-le_left w (length y))) (omega (arith, length-take n (drop w y), min-le_left n (length (drop w y))))

four : (a b c d : Bool) → ((a && b) && (c && d)) ≡ ((a && c) && (b && d))
four false b c d = refl
four true b false d = and-false b
four true b true d = refl

-- what is the fixed element is one
one_long : (x : List ℕ) (e : ℕ) → (eqb (length x) 1 && same_bytes x (e ∷ [])) ≡ same_bytes x (e ∷ [])
unfolding same_bytes
one_long [] e = refl
one_long (y ∷ []) e = refl
one_long (y ∷ z ∷ x) e = simp and-false

-- each group tested at its own place

unfoldable pub are_at : List Group → ℕ → List ℕ → Bool
are_at [] k s = true
are_at (digit w ∷ gs) k s = is_spelled (bits w) (take w (drop k s)) && are_at gs (k + w) s
are_at (gap e ∷ gs) k s = same_bytes (take 1 (drop k s)) (e ∷ []) && are_at gs (k + 1) s

pub groups_spelled : (b : ℕ) (gs : List Group) (k : ℕ) (s : List ℕ) → is_spelled (grouped b gs) (take (groups_width gs) (drop k s)) ≡ are_at gs k s
unfolding are_at are_groups groups_width is_spelled same_bytes
groups_spelled b [] k s = refl
groups_spelled b (digit w ∷ gs) k s =
    let n = groups_width gs in
    rw (front s k w n, back s k w n, sizes w n (drop k s), drop-drop w k s)
    (four (eqb (length (take w (drop k s))) w) (eqb (length (take n (drop (k + w) s))) n) (all_are is_bit (take w (drop k s))) (are_groups gs (take n (drop (k + w) s)))
    ∙ ap (λ t. is_spelled (bits w) (take w (drop k s)) && t) (groups_spelled b gs (k + w) s))
groups_spelled b (gap e ∷ gs) k s =
    let n = groups_width gs in
    let x = take 1 (drop k s) in
    rw (front s k 1 n, back s k 1 n, sizes 1 n (drop k s), drop-drop 1 k s)
    (four (eqb (length x) 1) (eqb (length (take n (drop (k + 1) s))) n) (same_bytes x (e ∷ [])) (are_groups gs (take n (drop (k + 1) s)))
    ∙ ap₂ (λ t u. t && u) (one_long x e) (groups_spelled b gs (k + 1) s))

-- each digit read at its own place

unfoldable pub below_at : ℕ → List Group → ℕ → List ℕ → Bool
below_at base [] k s = true
below_at base (digit w ∷ gs) k s = ltb (bits_number (take w (drop k s))) base && below_at base gs (k + w) s
below_at base (gap e ∷ gs) k s = below_at base gs (k + 1) s

unfoldable pub sum_at : ℕ → List Group → ℕ → List ℕ → ℕ
sum_at base [] k s = 0
sum_at base (digit w ∷ gs) k s = bits_number (take w (drop k s)) + base * sum_at base gs (k + w) s
sum_at base (gap e ∷ gs) k s = sum_at base gs (k + 1) s

below_at_lem : (base : ℕ) (gs : List Group) (k : ℕ) (s : List ℕ) → digits_below base gs (take (groups_width gs) (drop k s)) ≡ below_at base gs k s
unfolding below_at digits_below groups_width
below_at_lem base [] k s = refl
below_at_lem base (digit w ∷ gs) k s = simp (front s k w (groups_width gs), back s k w (groups_width gs), below_at_lem base gs (k + w) s)
below_at_lem base (gap e ∷ gs) k s = simp (back s k 1 (groups_width gs), below_at_lem base gs (k + 1) s)

sum_at_lem : (base : ℕ) (gs : List Group) (k : ℕ) (s : List ℕ) → groups_number base gs (take (groups_width gs) (drop k s)) ≡ sum_at base gs k s
unfolding sum_at groups_number groups_width
sum_at_lem base [] k s = refl
sum_at_lem base (digit w ∷ gs) k s = simp (front s k w (groups_width gs), back s k w (groups_width gs), sum_at_lem base gs (k + w) s)
sum_at_lem base (gap e ∷ gs) k s = simp (back s k 1 (groups_width gs), sum_at_lem base gs (k + 1) s)

pub groups_value : (base : ℕ) (gs : List Group) (k : ℕ) (s : List ℕ) → k + groups_width gs ≤ length s
    → value_of (grouped base gs) (take (groups_width gs) (drop k s)) ≡ pick (below_at base gs k s) (sum_at base gs k s) (groups_limit base gs)
groups_value base gs k s h = sized_value _ (grouped base gs) (piece_length k s (groups_width gs) h) ∙ simp (below_at_lem base gs k s, sum_at_lem base gs k s)

-- two digits below a base are a number below its square
pub pair_lt : (u t base : ℕ) → base ≤ 512 → (ltb u base && ltb t base) ≡ true → u + base * t < 262144
pair_lt u t base h b =
    let d = both (ltb u base) (ltb t base) b in
    omega (arith, ltb-true u base d.0, ltb-true t base d.1, mul-le-mul_right t h)
