-- Which bytes a layout admits at each place, and layouts that cannot fit the same bytes: somewhere one has a fixed byte that the
-- other does not admit.
use Rattle.cond.proofs.Kit.{[], ◌&&◌, ◌+◌, ◌-◌, ◌<◌, ◌||◌, ◌∙◌, ◌∷◌, ◌≡◌, ◌≤◌, ap, arith, Bool, drop, eq-eqb, eqb, eqb-true, false, false≢true, get_or, get_or-drop, get_or-take, le-leb, leb, leb-true, length, length-drop, length-take, List, ltb, ltb-false, ltb-true, not, not-true, refl, suc, sym, take, true, zero, ℕ, ⊎_elim}
use Rattle.cond.specs.Pick.{pick}
use Rattle.cond.proofs.Tests.{both, both_hold, either, either_way, or_right}
use Rattle.spelling.specs.Bytes.{are_digits, are_padded, is_bit, is_digit, is_hex, is_word, same_bytes}
use Rattle.spelling.specs.Spelling.{Spelling, bits, digits, grouped, hex, is_made_of, padded, word, words}
use Rattle.spelling.proofs.Spelling.{spelled_parts}
use Rattle.forms.specs.Slots.{Slot}
use Rattle.spelling.proofs.SameBytes.{same_bytes_lem}
use Rattle.forms.specs.Places.{Place, Layout, fits, fixed, part, shape, width}
use Rattle.forms.proofs.Allowed.{all_at}

-- the bytes that may stand somewhere: one alone, or those that pass a test
pub data Admitted : Type 0 where
  only : ℕ → Admitted
  those : (ℕ → Bool) → Admitted

abbrev pub admits : Admitted → ℕ → Bool
admits (only c) b = eqb b c
admits (those t) b = t b

-- some word of the list has the byte at place i
unfoldable pub lettered : List (List ℕ) → ℕ → ℕ → Bool
lettered [] i b = false
lettered (y ∷ ys) i b = eqb b (get_or y i 0) || lettered ys i b

-- what may be byte i of a place; nothing is said of groups
abbrev pub in_place : Place → ℕ → Admitted
in_place (fixed bs) i = only (get_or bs i 0)
in_place (part (digits w) f) i = those is_digit
in_place (part (hex w) f) i = those is_hex
in_place (part (padded w) f) i = those (λ b. eqb b 32 || is_digit b)
in_place (part (bits w) f) i = those is_bit
in_place (part (grouped g gs) f) i = those (λ b. true)
in_place (part (words w ws) f) i = those (lettered ws i)
in_place (part (word m bs) f) i = only (get_or bs i 0)

-- what may be byte i of a layout, any byte behind it
unfoldable pub admitted_at : Layout → ℕ → Admitted
admitted_at [] i = those (λ b. true)
admitted_at (p ∷ ps) i = pick (ltb i (width p)) (in_place p i) (admitted_at ps (i - width p))

same_at : (x y : List ℕ) (i : ℕ) → same_bytes x y ≡ true → eqb (get_or x i 0) (get_or y i 0) ≡ true
same_at x y i h = eq-eqb _ _ (ap (λ (z : List ℕ). get_or z i 0) (same_bytes_lem x y h))

lettered_at : (ws : List (List ℕ)) (x : List ℕ) (i : ℕ) → is_word ws x ≡ true → lettered ws i (get_or x i 0) ≡ true
unfolding is_word lettered
lettered_at [] x i h = absurd (false≢true h)
lettered_at (y ∷ ys) x i h =
    either_way (same_bytes x y) (λ e. simp (same_at x y i e))
    (λ e. or_right (eqb (get_or x i 0) (get_or y i 0)) (lettered ys i (get_or x i 0)) (lettered_at ys x i (rw e at h)))

padded_at : (x : List ℕ) (i : ℕ) → are_padded x ≡ true → i < length x → (eqb (get_or x i 0) 32 || is_digit (get_or x i 0)) ≡ true
unfolding are_padded
padded_at [] i h l = absurd (false≢true h)
padded_at (b ∷ []) zero h l = or_right (eqb b 32) (is_digit b) h
padded_at (b ∷ []) (suc i) h l = absurd (omega arith)
padded_at (b ∷ c ∷ bs) zero h l =
    either_way (eqb b 32) (λ q. simp q)
    (λ q.
    let e = both (leb 49 b) (leb b 57) (both (leb 49 b && leb b 57) (are_digits (c ∷ bs)) (rw q at h)).0 in
    or_right (eqb b 32) (is_digit b) (both_hold (leb 48 b) (leb b 57) (le-leb 48 b (omega (arith, leb-true 49 b e.0))) e.1))
padded_at (b ∷ c ∷ bs) (suc i) h l =
    either_way (eqb b 32) (λ q. padded_at (c ∷ bs) i (rw q at h) (omega arith))
    (λ q.
    or_right (eqb (get_or (c ∷ bs) i 0) 32) (is_digit (get_or (c ∷ bs) i 0))
    (all_at is_digit (c ∷ bs) i (both (leb 49 b && leb b 57) (are_digits (c ∷ bs)) (rw q at h)).1 (omega arith)))

made_of : (c : Spelling) (f : Slot) (x : List ℕ) (i : ℕ) → is_made_of c x ≡ true → i < length x → admits (in_place (part c f) i) (get_or x i 0) ≡ true
made_of (digits w) f x i h l = all_at is_digit x i h l
made_of (hex w) f x i h l = all_at is_hex x i h l
made_of (padded w) f x i h l = padded_at x i h l
made_of (bits w) f x i h l = all_at is_bit x i h l
made_of (grouped g gs) f x i h l = refl
made_of (words w ws) f x i h l = lettered_at ws x i h
made_of (word m bs) f x i h l = same_at x bs i h

permitted : (p : Place) (x : List ℕ) (i : ℕ) → fits p x ≡ true → i < length x → admits (in_place p i) (get_or x i 0) ≡ true
permitted (fixed bs) x i h l = same_at x bs i h
permitted (part c f) x i h l = made_of c f x i (spelled_parts x c h).1 l

-- a layout admits the bytes that it fits
shape_admits : (ps : Layout) (k : ℕ) (s : List ℕ) (i : ℕ) → shape ps k s ≡ true → k + i < length s → admits (admitted_at ps i) (get_or s (k + i) 0) ≡ true
unfolding shape admitted_at
shape_admits [] k s i h l = refl
shape_admits (p ∷ ps) k s i h l =
    let e = both (fits p (take (width p) (drop k s))) (shape ps (width p + k) s) h in
    either_way (ltb i (width p))
    (λ t.
    let m = ltb-true i (width p) t in
    let q : get_or (take (width p) (drop k s)) i 0 ≡ get_or s (k + i) 0 = get_or-take (width p) (drop k s) i 0 m ∙ get_or-drop k s i 0 in
    rw t (rw q at (permitted p (take (width p) (drop k s)) i e.0 (simp (length-take, length-drop) (omega arith)))))
    (λ t.
    let m = ltb-false i (width p) t in
    let q : width p + k + (i - width p) ≡ k + i = omega arith in
    rw t (rw q at (shape_admits ps (width p + k) s (i - width p) e.1 (omega arith))))

-- no byte is admitted by both
abbrev pub clash : Admitted → Admitted → Bool
clash (only c) y = not (admits y c)
clash (those t) (only c) = not (t c)
clash (those t) (those u) = false

never_byte : (x y : Admitted) (b : ℕ) → clash x y ≡ true → admits x b ≡ true → admits y b ≡ true → ⊥
never_byte (only c) y b h e f = false≢true (sym (not-true (admits y c) h) ∙ ap (admits y) (sym (eqb-true b c e)) ∙ f)
never_byte (those t) (only c) b h e f = false≢true (sym (not-true (t c) h) ∙ ap t (sym (eqb-true b c f)) ∙ e)
never_byte (those t) (those u) b h e f = false≢true h

-- one of the first n bytes cannot stand in both layouts
unfoldable pub clash_below : ℕ → Layout → Layout → Bool
clash_below zero ps qs = false
clash_below (suc i) ps qs = clash (admitted_at ps i) (admitted_at qs i) || clash_below i ps qs

-- layouts that clash do not both fit
pub never_both : (n : ℕ) (ps qs : Layout) (k : ℕ) (s : List ℕ) → clash_below n ps qs ≡ true → k + n ≤ length s → shape ps k s ≡ true → shape qs k s ≡ true → ⊥
unfolding clash_below
never_both zero ps qs k s c l h g = false≢true c
never_both (suc i) ps qs k s c l h g =
    ⊎_elim
    (λ e. never_byte (admitted_at ps i) (admitted_at qs i) _ e (shape_admits ps k s i h (omega arith)) (shape_admits qs k s i g (omega arith)))
    (λ e. never_both i ps qs k s e (omega arith) h g)
    (either (clash (admitted_at ps i) (admitted_at qs i)) (clash_below i ps qs) c)
