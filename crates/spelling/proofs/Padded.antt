-- Digits with spaces for leading zeros spell each number that the digits do, and only once.
use Rattle.cond.proofs.Kit.{[], ◌%◌, ◌&&◌, ◌*◌, ◌+◌, ◌/◌, ◌<◌, ◌^◌, ◌∙◌, ◌∷◌, ◌≡◌, ◌≤◌, ap, arith, div-eq_of_lt, eqb, eqb-false, eqb-true, false≢true, le-leb, leb, leb-true, length, List, mod-eq_of_lt, ne_eqb, pow-suc, refl, suc, true, ℕ}
use Rattle.cond.proofs.Tests.{both, either_way}
use Rattle.spelling.specs.Bytes.{all_are, are_digits, are_padded, blanked, decimal, digit_of, is_digit, number, number_in, spelled_in}
use Rattle.spelling.proofs.Base.{decimals, digit_range, spelled_length, spelled_number, number_lt}

pub blanked_length : (bs : List ℕ) → length (blanked bs) ≡ length bs
unfolding blanked
blanked_length [] = refl
blanked_length (b ∷ []) = refl
blanked_length (b ∷ c ∷ bs) = either_way (eqb b 48) (λ e. rw e (ap suc (blanked_length (c ∷ bs)))) (λ e. simp e)

pub number_blanked : (bs : List ℕ) → number (blanked bs) ≡ number bs
unfolding blanked number_in
number_blanked [] = refl
number_blanked (b ∷ []) = refl
number_blanked (b ∷ c ∷ bs) =
    either_way (eqb b 48)
    (λ e. rw e (ap (λ (n : ℕ). 0 * 10 ^ length (blanked (c ∷ bs)) + n) (number_blanked (c ∷ bs)) ∙ rw (eqb-true b 48 e) (omega arith)))
    (λ e. rw e)

space_padded : (x : List ℕ) → are_padded x ≡ true → are_padded (32 ∷ x) ≡ true
unfolding are_padded
space_padded [] h = absurd (false≢true h)
space_padded (c ∷ cs) h = h

pub blanked_padded : (b : ℕ) (bs : List ℕ) → are_digits (b ∷ bs) ≡ true → are_padded (blanked (b ∷ bs)) ≡ true
unfolding blanked are_padded all_are
blanked_padded b [] h = (both (is_digit b) true h).0
blanked_padded b (c ∷ bs) h =
    let d = both (is_digit b) (are_digits (c ∷ bs)) h in
    either_way (eqb b 48) (λ e. rw e (space_padded (blanked (c ∷ bs)) (blanked_padded c bs d.1)))
    (λ e.
    let r = digit_range b d.0 in
    let n : b ≡ 48 → ⊥ = eqb-false b 48 e in
    simp (e, ne_eqb b 32 (λ q. omega arith), le-leb 49 b (omega arith), le-leb b 57 (omega arith), d.1))

-- a number that the digits behind the first one hold has 0 for its first
high_zero : (w n : ℕ) → n < 10 ^ w → decimal (suc w) n ≡ 48 ∷ decimal w n
unfolding spelled_in
high_zero w n h =
    let q : n / 10 ^ w ≡ 0 = div-eq_of_lt h in
    let r : n % 10 ^ w ≡ n = mod-eq_of_lt h in
    simp (q, r)

pub blank_zero : (x : List ℕ) (w : ℕ) → length x ≡ suc w → blanked (48 ∷ x) ≡ 32 ∷ blanked x
unfolding blanked
blank_zero [] w h = absurd (omega (arith, h))
blank_zero (c ∷ cs) w h = refl

pub blanked_other : (b : ℕ) (bs : List ℕ) → (b ≡ 48 → ⊥) → blanked (b ∷ bs) ≡ b ∷ bs
unfolding blanked
blanked_other b [] h = refl
blanked_other b (c ∷ bs) h = simp (ne_eqb b 48 h)

pub blanked_short : (x : List ℕ) → length x ≤ 1 → blanked x ≡ x
unfolding blanked
blanked_short [] h = refl
blanked_short (b ∷ []) h = refl
blanked_short (b ∷ c ∷ bs) h = absurd (omega (arith, h))

abbrev Padded : List ℕ → Type 0
Padded bs = (blanked (decimal (length bs) (number bs)) ≡ bs) × (number bs < 10 ^ length bs)

digits_padded : (b c : ℕ) (bs : List ℕ) → (49 ≤ b) × (b ≤ 57) → are_digits (c ∷ bs) ≡ true → Padded (b ∷ c ∷ bs)
digits_padded b c bs r h =
    let d : are_digits (b ∷ c ∷ bs) ≡ true = unfold all_are in simp (le-leb 48 b (omega arith), le-leb b 57 (omega arith)) h in
    let k : blanked (b ∷ c ∷ bs) ≡ b ∷ c ∷ bs = blanked_other b (c ∷ bs) (λ q. omega arith) in
    (ap blanked (spelled_number decimals (b ∷ c ∷ bs) d) ∙ k, number_lt decimals (b ∷ c ∷ bs) d)

space_number : (x : List ℕ) → number (32 ∷ x) ≡ number x
unfolding number_in
space_number x = omega arith

space_both : (x : List ℕ) (w : ℕ) → length x ≡ suc w → Padded x → Padded (32 ∷ x)
space_both x w l h =
    let n = space_number x in
    let d : List ℕ = decimal (length x) (number x) in
    let e : decimal (suc (length x)) (number (32 ∷ x)) ≡ 48 ∷ d = ap (decimal (suc (length x))) n ∙ high_zero (length x) (number x) h.1 in
    let f : blanked (48 ∷ d) ≡ 32 ∷ blanked d = blank_zero d w (spelled_length 10 digit_of (length x) (number x) ∙ l) in
    (ap blanked e ∙ f ∙ ap (λ (y : List ℕ). 32 ∷ y) h.0, rw (n, pow-suc) (omega (arith, h.1)))

-- a padded part spells a number that its digits hold, and is the spelling of it
pub padded_both : (bs : List ℕ) → are_padded bs ≡ true → Padded bs
unfolding are_padded
padded_both [] h = absurd (false≢true h)
padded_both (b ∷ []) h =
    let d : are_digits (b ∷ []) ≡ true = unfold all_are in simp h in
    let k : blanked (b ∷ []) ≡ b ∷ [] = unfold blanked in refl in
    (ap blanked (spelled_number decimals (b ∷ []) d) ∙ k, number_lt decimals (b ∷ []) d)
padded_both (b ∷ c ∷ bs) h =
    either_way (eqb b 32) (λ e. rw (eqb-true b 32 e) (space_both (c ∷ bs) (length bs) refl (padded_both (c ∷ bs) (rw e at h))))
    (λ e.
    let q = both (leb 49 b && leb b 57) (are_digits (c ∷ bs)) (rw e at h) in
    let r = both (leb 49 b) (leb b 57) q.0 in
    digits_padded b c bs (leb-true 49 b r.0, leb-true b 57 r.1) q.1)
