-- One turn of a loop that reads bytes: what is said of the bytes from place i on is said of byte i and of those behind it.
use Rattle.cond.proofs.Kit.{[], ◌&&◌, ◌||◌, leb, le-leb, or_assoc, or-false, ◌*◌, ◌++◌, ◌+◌, ◌-◌, ◌<◌, ◌^◌, ◌∙◌, ◌∷◌, ◌≡◌, ◌≤◌, add_assoc, add-mul, add-one, append-nil, append_assoc, lit<, lit≤, ap, arith, Bool, drop, drop-cons, eqb, eqb-false, eqb-true, false, get_or, length, length-append, length-drop, List, mul_assoc, mul-le-mul_left, mul-le-mul_right, mul-one, pow-le-pow_right, pow-suc, pow-zero, refl, suc, sym, take, take_all, take-suc, ℕ, drop_of_length-le, eq-eqb, ne_eqb, and_assoc, and-false, and-true}
use Rattle.cond.proofs.Tests.{either_way}
use Rattle.std.specs.List.{prefix_len}
use Rattle.spelling.specs.Bytes.{are_digits, are_padded, bits_number, is_bit, is_digit, is_word, letters, is_within, number_in, all_are, same_bytes}

module _ {A : Type 0} (f : List ℕ → A) (s : List ℕ) (i : ℕ) where
  pub next : i < length s → f (drop i s) ≡ f (get_or s i 0 ∷ drop (i + 1) s)
  next h = rw (add-one, drop-cons s i 0)

  pub none_left : length s ≤ i → f (drop i s) ≡ f []
  none_left h = ap f (drop_of_length-le s h)

-- a test of every byte: those passed met it where held is true, and the rest decides besides
module _ (t : ℕ → Bool) (s : List ℕ) (i : ℕ) (held : Bool) (rest : all_are t s ≡ (held && all_are t (drop i s))) where
  pub all_step : i < length s → all_are t s ≡ ((held && t (get_or s i 0)) && all_are t (drop (i + 1) s))
  unfolding all_are
  all_step h = rest ∙ ap (λ x. held && x) (next (all_are t) s i h) ∙ sym (and_assoc held (t (get_or s i 0)) _)

  pub all_end : length s ≤ i → held ≡ all_are t s
  unfolding all_are
  all_end h = sym (rest ∙ ap (λ x. held && x) (none_left (all_are t) s i h) ∙ and-true held)

-- elements up to 1 are bits
pub bit_step : (s : List ℕ) (i : ℕ) (held : Bool) → all_are is_bit s ≡ (held && all_are is_bit (drop i s)) → i < length s
    → all_are is_bit s ≡ ((held && leb (get_or s i 0) 1) && all_are is_bit (drop (i + 1) s))
bit_step s i held rest h = all_step is_bit s i held rest h ∙ simp (le-leb 0 (get_or s i 0) (omega arith))

-- two byte strings compared

pub lengths_differ : (s t : List ℕ) → (length s ≡ length t → ⊥) → same_bytes s t ≡ false
unfolding same_bytes
lengths_differ [] [] h = absurd (h refl)
lengths_differ [] (y ∷ ys) h = refl
lengths_differ (x ∷ xs) [] h = refl
lengths_differ (x ∷ xs) (y ∷ ys) h = simp (lengths_differ xs ys (λ e. h (ap suc e)), and-false)

module _ (s t : List ℕ) (i : ℕ) (same : Bool) (rest : same_bytes s t ≡ (same && same_bytes (drop i s) (drop i t))) where
  pub same_step : i < length s → i < length t → same_bytes s t ≡ ((same && eqb (get_or s i 0) (get_or t i 0)) && same_bytes (drop (i + 1) s) (drop (i + 1) t))
  unfolding same_bytes
  same_step h l =
      rest ∙ ap (λ x. same && x) (next (λ x. same_bytes x (drop i t)) s i h ∙ next (same_bytes (get_or s i 0 ∷ drop (i + 1) s)) t i l)
      ∙ sym (and_assoc same (eqb (get_or s i 0) (get_or t i 0)) _)

  pub same_end : length s ≤ i → length t ≤ i → same ≡ same_bytes s t
  unfolding same_bytes
  same_end h l = sym (rest ∙ simp (drop_of_length-le s h, drop_of_length-le t l, and-true))

-- a byte among letters, each of which is a word

eqb_sym : (x y : ℕ) → eqb x y ≡ eqb y x
eqb_sym x y = either_way (eqb y x) (λ e. eq-eqb x y (sym (eqb-true y x e)) ∙ sym e) (λ e. ne_eqb x y (λ q. eqb-false y x e (sym q)) ∙ sym e)

abbrev pub among : ℕ → List ℕ → Bool
among b ls = is_word (letters ls) (b ∷ [])

module _ (b : ℕ) (ls : List ℕ) (i : ℕ) (found : Bool) (rest : among b ls ≡ (found || among b (drop i ls))) where
  pub among_step : i < length ls → among b ls ≡ ((found || eqb (get_or ls i 0) b) || among b (drop (i + 1) ls))
  unfolding is_word letters same_bytes
  among_step h =
      let e : among b (drop i ls) ≡ (eqb (get_or ls i 0) b || among b (drop (i + 1) ls)) = next (among b) ls i h ∙ simp (and-true, eqb_sym b (get_or ls i 0)) in
      rest ∙ ap (λ t. found || t) e ∙ sym (or_assoc found (eqb (get_or ls i 0) b) (among b (drop (i + 1) ls)))

  pub among_end : length ls ≤ i → found ≡ among b ls
  unfolding is_word letters
  among_end h = sym (rest ∙ ap (λ t. found || t) (none_left (among b) ls i h) ∙ or-false found)

-- a number by its last digit

regroup : (v p base m d : ℕ) → v * (p * base) + (m * base + d) ≡ (v * p + m) * base + d
regroup v p base m d = rw (add-mul, mul_assoc, add_assoc)

number_snoc : (base : ℕ) (value : ℕ → ℕ) (xs : List ℕ) (b : ℕ) → number_in base value (xs ++ (b ∷ [])) ≡ number_in base value xs * base + value b
unfolding number_in
number_snoc base value [] b = rw (pow-zero, mul-one) (omega arith)
number_snoc base value (x ∷ xs) b =
    let l : length (xs ++ (b ∷ [])) ≡ suc (length xs) = length-append xs (b ∷ []) ∙ omega arith in
    simp (l, pow-suc, number_snoc base value xs b) (regroup (value x) (base ^ length xs) base (number_in base value xs) (value b))

-- room for the digits still to come, whatever the bytes are: k stands for the largest value over the largest digit

pub room_step : (k base n v i : ℕ) → n + k ≤ k * base ^ i → v + k ≤ k * base → n * base + v + k ≤ k * base ^ (i + 1)
room_step k base n v i h l =
    let e : (n + k) * base ≤ k * base ^ i * base = mul-le-mul_right base h in
    let f : (n + k) * base ≡ n * base + k * base = add-mul n k base in
    let g : k * base ^ i * base ≡ k * (base ^ i * base) = mul_assoc k (base ^ i) base in
    rw (add-one, pow-suc) (omega arith)

pub room_most : (k base n i m : ℕ) → 0 < base → n + k ≤ k * base ^ i → i ≤ m → n + k ≤ k * base ^ m
room_most k base n i m p h l = omega (arith, mul-le-mul_left k (pow-le-pow_right {n = base} p {i = i} {j = m} l))

-- the bytes in front of i spell n
pub record Spelt (k base : ℕ) (value : ℕ → ℕ) (s : List ℕ) (n i : ℕ) : Type 0 where
  pub inside : i ≤ length s
  pub room : n + k ≤ k * base ^ i
  pub number : n ≡ number_in base value (take i s)

module _ (k base : ℕ) (value : ℕ → ℕ) (s : List ℕ) where
  pub spelt_none : Spelt k base value s 0 0
  unfolding number_in
  spelt_none = record { inside = omega arith; room = rw (pow-zero, mul-one) (omega arith); number = refl }

  module _ (n i : ℕ) (p : Spelt k base value s n i) where
    pub spelt_next : (v : ℕ) → i < length s → v + k ≤ k * base → v ≡ value (get_or s i 0) → Spelt k base value s (n * base + v) (i + 1)
    spelt_next v h l e =
        record {
          inside = omega arith;
          room = room_step k base n v i p.room l;
          number = ap (λ (x : ℕ). n * base + x) e ∙ rw (add-one, take-suc s i 0 h, number_snoc, p.number);
        }

    pub spelt_all : length s ≤ i → (n ≡ number_in base value s) × (n + k ≤ k * base ^ length s)
    spelt_all h =
        let e : i ≡ length s = omega (arith, p.inside) in
        (p.number ∙ ap (number_in base value) (take_all i s h), rw e at p.room)

no_bytes : (x : List ℕ) → length x ≡ 0 → x ≡ []
no_bytes [] h = refl
no_bytes (b ∷ x) h = absurd (omega (arith, h))

-- bits from the last one on: those behind spell n, and those in front are still to be read
pub record Behind (s front : List ℕ) (n : ℕ) : Type 0 where
  pub behind : List ℕ
  pub all : front ++ behind ≡ s
  pub number : n ≡ bits_number behind
  pub room : n + 255 ≤ 255 * 2 ^ length behind

pub behind_none : (s front : List ℕ) → front ≡ s → Behind s front 0
unfolding bits_number
behind_none s front e = record { behind = []; all = append-nil front ∙ e; number = refl; room = lit≤ tt }

module _ (s front : List ℕ) (n : ℕ) (p : Behind s front n) where
  pub behind_small : (less : List ℕ) (b : ℕ) → front ≡ less ++ (b ∷ []) → length s ≤ 24 → n + 255 ≤ 255 * 2 ^ 23
  behind_small less b e h =
      room_most 255 2 n (length p.behind) 23 (lit< tt) p.room (omega (arith, ap length p.all, ap length e, length-append front p.behind, length-append less (b ∷ [])))

  pub behind_next : (less : List ℕ) (b v : ℕ) → front ≡ less ++ (b ∷ []) → v ≡ b → b < 256 → Behind s less (n * 2 + v)
  unfolding bits_number
  behind_next less b v e q h =
      record {
        behind = b ∷ p.behind;
        all = sym (append_assoc less (b ∷ []) p.behind) ∙ ap (λ (x : List ℕ). x ++ p.behind) (sym e) ∙ p.all;
        number = omega (arith, p.number);
        room = rw add-one at (room_step 255 2 n v (length p.behind) p.room (omega arith));
      }

  pub behind_all : length front ≡ 0 → (n ≡ bits_number s) × (n + 255 ≤ 255 * 2 ^ length s)
  behind_all h = let e : p.behind ≡ s = ap (λ (x : List ℕ). x ++ p.behind) (sym (no_bytes front h)) ∙ p.all in (p.number ∙ ap bits_number e, rw e at p.room)

-- digits behind spaces

abbrev pub is_space : ℕ → Bool
is_space b = eqb b 32

one_more : (n : ℕ) → 1 + n ≡ suc n
one_more n = omega arith

pub padded_behind : (s : List ℕ) → are_padded s ≡ are_padded (drop (prefix_len is_space s) s)
unfolding are_padded
padded_behind [] = refl
padded_behind (b ∷ []) = either_way (eqb b 32) (λ e. rw (e, eqb-true b 32 e)) (λ e. rw e)
padded_behind (b ∷ c ∷ bs) = either_way (eqb b 32) (λ e. rw (e, one_more (prefix_len is_space (c ∷ bs))) (padded_behind (c ∷ bs))) (λ e. rw e (rw e))

behind_spaces : (s : List ℕ) → is_space (get_or (drop (prefix_len is_space s) s) 0 0) ≡ false
behind_spaces [] = refl
behind_spaces (b ∷ s) = either_way (eqb b 32) (λ e. rw (e, one_more (prefix_len is_space s)) (behind_spaces s)) (λ e. rw e e)

padded_front : (x : List ℕ) → is_space (get_or x 0 0) ≡ false → 2 ≤ length x → are_padded x ≡ (is_within 49 57 (get_or x 0 0) && are_digits (drop 1 x))
unfolding are_padded
padded_front [] e h = absurd (omega (arith, h))
padded_front (b ∷ []) e h = absurd (omega (arith, h))
padded_front (b ∷ c ∷ x) e h = rw e

padded_single : (x : List ℕ) → length x ≡ 1 → are_padded x ≡ is_digit (get_or x 0 0)
unfolding are_padded
padded_single [] h = absurd (omega (arith, h))
padded_single (b ∷ []) h = refl
padded_single (b ∷ c ∷ x) h = absurd (omega (arith, h))

padded_none : (x : List ℕ) → length x ≡ 0 → are_padded x ≡ false
unfolding are_padded
padded_none [] h = refl
padded_none (b ∷ x) h = absurd (omega (arith, h))

-- what stands behind the spaces, as the code lends it
module _ (s : List ℕ) (k : ℕ) (e : k ≡ prefix_len is_space s) where
  behind : take (length s - k) (drop k s) ≡ drop (prefix_len is_space s) s
  behind = take_all (length s - k) (drop k s) (omega (arith, length-drop k s)) ∙ ap (λ n. drop n s) e

  pub none_behind : length (take (length s - k) (drop k s)) < 1 → false ≡ are_padded s
  none_behind h = sym (padded_behind s ∙ ap are_padded (sym behind) ∙ padded_none _ (omega arith))

  pub one_behind : length (take (length s - k) (drop k s)) ≡ 1 → is_digit (get_or (take (length s - k) (drop k s)) 0 0) ≡ are_padded s
  one_behind h = sym (padded_behind s ∙ ap are_padded (sym behind) ∙ padded_single _ h)

  pub more_behind : (digits : Bool) (x : List ℕ) → x ≡ take (length s - k) (drop k s) → digits ≡ are_digits (take (length x - 1) (drop 1 x)) → 2 ≤ length x
      → (is_within 49 57 (get_or x 0 0) && digits) ≡ are_padded s
  more_behind digits x p d h =
      let whole : x ≡ drop (prefix_len is_space s) s = p ∙ behind in
      let rest : take (length x - 1) (drop 1 x) ≡ drop 1 x = take_all (length x - 1) (drop 1 x) (omega (arith, length-drop 1 x)) in
      ap (λ (t : Bool). is_within 49 57 (get_or x 0 0) && t) (d ∙ ap are_digits rest)
      ∙ sym (padded_behind s ∙ ap are_padded (sym whole) ∙ padded_front x (rw whole (behind_spaces s)) h)
