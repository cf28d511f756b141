-- Digits of a base spell each number below their power of the base, and only once: one law for decimal and hexadecimal.
use Rattle.cond.proofs.Kit.{[], ◌%◌, ◌&&◌, ◌*◌, ◌+◌, ◌-◌, ◌/◌, ◌<◌, ◌^◌, ◌∙◌, ◌∷◌, ◌≡◌, ◌≤◌, ap, arith, Bool, digits_div, digits_lt, digits_mod, false, le-leb, le-ltb, leb, leb-false, leb-true, length, List, lit<, lt-leb, lt-ltb, ltb, ltb-false, ltb-true, mod-eq_of_lt, mod-lt, mod-mul, mul_comm, mul-pos, pow-suc, pow-zero, refl, subst, suc, sym, true, zero, ℕ, ⊎_elim}
use Rattle.cond.specs.Pick.{pick}
use Rattle.cond.proofs.Tests.{both, either, either_way}
use Rattle.spelling.specs.Bytes.{all_are, digit_of, digit_value, hex_of, hex_value, is_digit, is_hex, number_in, spelled_in}

-- each value below the base has its digit, and each digit its value
pub record Base (base : ℕ) (is : ℕ → Bool) (value digit : ℕ → ℕ) : Type 0 where
  pub positive : 0 < base
  pub spelled : (d : ℕ) → d < base → (is (digit d) ≡ true) × (value (digit d) ≡ d)
  pub valued : (b : ℕ) → is b ≡ true → (value b < base) × (digit (value b) ≡ b)

-- decimal

pub digit_range : (b : ℕ) → is_digit b ≡ true → (48 ≤ b) × (b ≤ 57)
digit_range b h =
    let e = both (leb 48 b) (leb b 57) h in
    (leb-true 48 b e.0, leb-true b 57 e.1)

decimal_value : (b : ℕ) → is_digit b ≡ true → (digit_value b < 10) × (digit_of (digit_value b) ≡ b)
decimal_value b h =
    let r = digit_range b h in
    omega arith

pub decimals : Base 10 is_digit digit_value digit_of
decimals =
    record {
      positive = lit< tt;
      spelled = λ d h. (simp (le-leb 48 (d + 48) (omega arith), le-leb (d + 48) 57 (omega arith)), omega arith);
      valued = decimal_value;
    }

-- hexadecimal

digit_value_lem : (d : ℕ) → d < 16 → (is_hex (hex_of d) ≡ true) × (hex_value (hex_of d) ≡ d)
digit_value_lem d h =
    either_way (ltb d 10)
    (λ e.
    let l : d < 10 = ltb-true d 10 e in
    let q = le-leb (d + 48) 57 (omega arith) in
    rw e (simp (le-leb 48 (d + 48) (omega arith), q), simp q (omega arith)))
    (λ e.
    let l : 10 ≤ d = ltb-false d 10 e in
    let q = lt-leb (d + 55) 57 (omega arith) in
    rw e (simp (le-leb 48 (d + 55) (omega arith), q, le-leb 65 (d + 55) (omega arith), le-leb (d + 55) 70 (omega arith)), simp q (omega arith)))

value_digit : (b : ℕ) → is_hex b ≡ true → (hex_value b < 16) × (hex_of (hex_value b) ≡ b)
value_digit b h = go (leb b 57) refl
  where
    go : (t : Bool) → leb b 57 ≡ t → (pick t (b % 16) (b - 55) < 16) × (hex_of (pick t (b % 16) (b - 55)) ≡ b)
    go true e =
        let u = leb-true b 57 e in
        let l : 48 ≤ b =
        ⊎_elim (λ a. leb-true 48 b (both (leb 48 b) (leb b 57) a).0)
        (λ a. omega (arith, leb-true 65 b (both (leb 65 b) (leb b 70) a).0))
        (either (is_digit b) (leb 65 b && leb b 70) h) in
        (omega arith, simp (lt-ltb (b % 16) 10 (omega arith)) (omega arith))
    go false e =
        let u = leb-false b 57 e in
        let l : (65 ≤ b) × (b ≤ 70) =
        ⊎_elim (λ a. omega (arith, leb-true b 57 (both (leb 48 b) (leb b 57) a).1))
        (λ a. let q = both (leb 65 b) (leb b 70) a in (leb-true 65 b q.0, leb-true b 70 q.1))
        (either (is_digit b) (leb 65 b && leb b 70) h) in
        (omega arith, simp (le-ltb (b - 55) 10 (omega arith)) (omega arith))

pub hexadecimals : Base 16 is_hex hex_value hex_of
hexadecimals = record { positive = lit< tt; spelled = digit_value_lem; valued = value_digit }

pub spelled_length : (base : ℕ) (digit : ℕ → ℕ) (w n : ℕ) → length (spelled_in base digit w n) ≡ w
unfolding spelled_in
spelled_length base digit zero n = refl
spelled_length base digit (suc w) n = ap suc (spelled_length base digit w _)

-- a number below b * c is its high digit in base b and the rest
place_value : (b c n : ℕ) → 0 < b → 0 < c → n < c * b → n / c % b * c + n % c ≡ n
place_value b c n hb hc h = sym (mod-mul n hb hc) ∙ mod-eq_of_lt (subst (λ (x : ℕ). n < x) (mul_comm c b) h)

pub power_pos : (b w : ℕ) → 0 < b → 0 < b ^ w
power_pos b zero h = rw pow-zero (omega arith)
power_pos b (suc w) h = rw pow-suc (mul-pos (power_pos b w h) h)

module _ {base : ℕ} {is : ℕ → Bool} {value digit : ℕ → ℕ} (c : Base base is value digit) where
  pub spelled_are : (w n : ℕ) → all_are is (spelled_in base digit w n) ≡ true
  unfolding all_are spelled_in
  spelled_are zero n = refl
  spelled_are (suc w) n = simp ((c.spelled (n / base ^ w % base) (mod-lt (n / base ^ w) c.positive)).0, spelled_are w (n % base ^ w))

  pub number_spelled : (w n : ℕ) → n < base ^ w → number_in base value (spelled_in base digit w n) ≡ n
  unfolding number_in spelled_in
  number_spelled zero n h = omega (arith, rw pow-zero at h)
  number_spelled (suc w) n h =
      let p : ℕ = base ^ w in
      let pos : 0 < p = power_pos base w c.positive in
      let l : length (spelled_in base digit w (n % p)) ≡ w = spelled_length base digit w (n % p) in
      let q : value (digit (n / p % base)) ≡ n / p % base = (c.spelled (n / p % base) (mod-lt (n / p) c.positive)).1 in
      let i : number_in base value (spelled_in base digit w (n % p)) ≡ n % p = number_spelled w (n % p) (mod-lt n pos) in
      simp (l, q, i) (place_value base p n c.positive pos (rw pow-suc at h))

  pub number_lt : (bs : List ℕ) → all_are is bs ≡ true → number_in base value bs < base ^ length bs
  unfolding number_in all_are
  number_lt [] h = rw pow-zero (omega arith)
  number_lt (b ∷ bs) h =
      let e = both (is b) (all_are is bs) h in
      rw (pow-suc, mul_comm (base ^ length bs) base) (digits_lt {q = value b} (c.valued b e.0).0 (number_lt bs e.1))

  pub spelled_number : (bs : List ℕ) → all_are is bs ≡ true → spelled_in base digit (length bs) (number_in base value bs) ≡ bs
  unfolding number_in all_are spelled_in
  spelled_number [] h = refl
  spelled_number (b ∷ bs) h =
      let e = both (is b) (all_are is bs) h in
      let r = c.valued b e.0 in
      let l = number_lt bs e.1 in
      let q : value b % base ≡ value b = mod-eq_of_lt r.0 in
      simp (digits_div (value b) l, digits_mod (value b) l, q, r.1, spelled_number bs e.1)
