-- Which bytes a layout can hold: a test of every byte that its places allow holds of every string that it writes.
use Rattle.cond.proofs.Kit.{[], ◌%◌, ◌&&◌, ◌++◌, ◌/◌, ◌<◌, ◌^◌, ◌∷◌, ◌≡◌, arith, Bool, drop, eqb, get_or, length, List, lit<, ltb, ltb-false, ltb-true, mod-lt, refl, suc, take, true, zero, ℕ}
use Rattle.spelling.specs.Bytes.{Group, all_are, bits_of, blanked, decimal, digit, digit_of, gap, groups_of, hex_of, spelled_in}
use Rattle.forms.specs.Places.{Place, Layout, bytes_of, fixed, part, placed}
use Rattle.forms.specs.Slots.{Values}
use Rattle.spelling.specs.Spelling.{bits, digits, grouped, hex, padded, word, words}
use Rattle.cond.proofs.Tests.{both, either_way}

-- the test holds of all numbers below n
unfoldable pub up_to : ℕ → (ℕ → Bool) → Bool
up_to zero t = true
up_to (suc n) t = t n && up_to n t

unfoldable pub all_words : (ℕ → Bool) → List (List ℕ) → Bool
all_words t [] = true
all_words t (x ∷ xs) = all_are t x && all_words t xs

unfoldable pub all_groups : (ℕ → Bool) → List Group → Bool
all_groups t [] = true
all_groups t (digit w ∷ gs) = all_groups t gs
all_groups t (gap e ∷ gs) = t e && all_groups t gs

abbrev pub allows : (ℕ → Bool) → Place → Bool
allows t (fixed bs) = all_are t bs
allows t (part (digits w) f) = up_to 10 (λ (d : ℕ). t (digit_of d))
allows t (part (hex w) f) = up_to 16 (λ (d : ℕ). t (hex_of d))
allows t (part (padded w) f) = t 32 && up_to 10 (λ (d : ℕ). t (digit_of d))
allows t (part (bits w) f) = t 0 && t 1
allows t (part (grouped b gs) f) = (t 0 && t 1) && all_groups t gs
allows t (part (words w ws) f) = all_words t ws
allows t (part (word m bs) f) = all_are t bs

unfoldable pub allows_layout : (ℕ → Bool) → Layout → Bool
allows_layout t [] = true
allows_layout t (p ∷ ps) = allows t p && allows_layout t ps

below : (n : ℕ) (t : ℕ → Bool) → up_to n t ≡ true → (d : ℕ) → d < n → t d ≡ true
unfolding up_to
below zero t h d l = absurd (omega arith)
below (suc n) t h d l =
    either_way (ltb d n) (λ e. below n t (both (t n) (up_to n t) h).1 d (ltb-true d n e))
    (λ e. let m : d ≡ n = omega (arith, ltb-false d n e) in rw m (both (t n) (up_to n t) h).0)

module _ (t : ℕ → Bool) where
  spelled_all : (base : ℕ) (glyph : ℕ → ℕ) → 0 < base → up_to base (λ (d : ℕ). t (glyph d)) ≡ true → (w n : ℕ) → all_are t (spelled_in base glyph w n) ≡ true
  unfolding all_are spelled_in
  spelled_all base glyph p h zero n = refl
  spelled_all base glyph p h (suc w) n =
      simp (below base (λ (d : ℕ). t (glyph d)) h (n / base ^ w % base) (mod-lt (n / base ^ w) p), spelled_all base glyph p h w (n % base ^ w))

  blanked_all : (bs : List ℕ) → t 32 ≡ true → all_are t bs ≡ true → all_are t (blanked bs) ≡ true
  unfolding all_are blanked
  blanked_all [] s h = refl
  blanked_all (b ∷ []) s h = h
  blanked_all (b ∷ c ∷ bs) s h =
      let i = blanked_all (c ∷ bs) s (both (t b) (all_are t (c ∷ bs)) h).1 in
      either_way (eqb b 48) (λ e. simp (e, s, i)) (λ e. rw e h)

  bit_all : (n : ℕ) → (t 0 && t 1) ≡ true → t (n % 2) ≡ true
  bit_all n h = go (n % 2) (mod-lt n (lit< tt))
    where
      go : (m : ℕ) → m < 2 → t m ≡ true
      go zero l = (both (t 0) (t 1) h).0
      go (suc zero) l = (both (t 0) (t 1) h).1
      go (suc (suc m)) l = absurd (omega arith)

  bits_all : (w n : ℕ) → (t 0 && t 1) ≡ true → all_are t (bits_of w n) ≡ true
  unfolding all_are bits_of
  bits_all zero n h = refl
  bits_all (suc w) n h = simp (bit_all n h, bits_all w (n / 2) h)

  word_all : (ws : List (List ℕ)) (n : ℕ) → all_words t ws ≡ true → all_are t (get_or ws n []) ≡ true
  unfolding all_are all_words
  word_all [] n h = refl
  word_all (x ∷ xs) zero h = (both (all_are t x) (all_words t xs) h).0
  word_all (x ∷ xs) (suc n) h = word_all xs n (both (all_are t x) (all_words t xs) h).1

  pub append_all : (a b : List ℕ) → all_are t a ≡ true → all_are t b ≡ true → all_are t (a ++ b) ≡ true
  unfolding all_are
  append_all [] b h l = l
  append_all (x ∷ a) b h l =
      let e = both (t x) (all_are t a) h in
      simp (e.0, append_all a b e.1 l)

  groups_all : (base : ℕ) (gs : List Group) (n : ℕ) → (t 0 && t 1) ≡ true → all_groups t gs ≡ true → all_are t (groups_of base gs n) ≡ true
  unfolding all_are all_groups groups_of
  groups_all base [] n z h = refl
  groups_all base (digit w ∷ gs) n z h = append_all (bits_of w (n % base)) _ (bits_all w (n % base) z) (groups_all base gs (n / base) z h)
  groups_all base (gap e ∷ gs) n z h =
      let q = both (t e) (all_groups t gs) h in
      simp (q.0, groups_all base gs n z q.1)

  placed_all : (p : Place) (v : Values) → allows t p ≡ true → all_are t (placed p v) ≡ true
  placed_all (fixed bs) v h = h
  placed_all (part (digits w) f) v h = spelled_all 10 digit_of (lit< tt) h w (v f)
  placed_all (part (hex w) f) v h = spelled_all 16 hex_of (lit< tt) h w (v f)
  placed_all (part (padded w) f) v h =
      let e = both (t 32) (up_to 10 (λ (d : ℕ). t (digit_of d))) h in
      blanked_all (decimal w (v f)) e.0 (spelled_all 10 digit_of (lit< tt) e.1 w (v f))
  placed_all (part (bits w) f) v h = bits_all w (v f) h
  placed_all (part (grouped b gs) f) v h =
      let e = both (t 0 && t 1) (all_groups t gs) h in
      groups_all b gs (v f) e.0 e.1
  placed_all (part (words w ws) f) v h = word_all ws (v f) h
  placed_all (part (word m bs) f) v h = h

  pub layout_all : (ps : Layout) (v : Values) → allows_layout t ps ≡ true → all_are t (bytes_of ps v) ≡ true
  unfolding bytes_of allows_layout all_are
  layout_all [] v h = refl
  layout_all (p ∷ ps) v h =
      let e = both (allows t p) (allows_layout t ps) h in
      append_all (placed p v) (bytes_of ps v) (placed_all p v e.0) (layout_all ps v e.1)

  pub all_take : (n : ℕ) (s : List ℕ) → all_are t s ≡ true → all_are t (take n s) ≡ true
  unfolding all_are
  all_take zero s h = refl
  all_take (suc n) [] h = refl
  all_take (suc n) (x ∷ s) h =
      let e = both (t x) (all_are t s) h in
      simp (e.0, all_take n s e.1)

  pub all_drop : (n : ℕ) (s : List ℕ) → all_are t s ≡ true → all_are t (drop n s) ≡ true
  unfolding all_are
  all_drop zero s h = h
  all_drop (suc n) [] h = refl
  all_drop (suc n) (x ∷ s) h = all_drop n s (both (t x) (all_are t s) h).1

  pub all_at : (s : List ℕ) (i : ℕ) → all_are t s ≡ true → i < length s → t (get_or s i 0) ≡ true
  unfolding all_are
  all_at [] i h l = absurd (omega (arith, l))
  all_at (x ∷ s) zero h l = (both (t x) (all_are t s) h).0
  all_at (x ∷ s) (suc i) h l = all_at s i (both (t x) (all_are t s) h).1 (omega arith)
