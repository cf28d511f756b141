-- A layout that ends in fixed bytes fits no bytes that are shorter than it.
use Rattle.cond.proofs.Kit.{[], ◌&&◌, ◌+◌, ◌∙◌, ◌∷◌, ◌≡◌, ◌≤◌, and-true, ap, arith, Bool, drop, false, false≢true, length, length-drop, length-take, List, min, min-le_right, suc, sym, take, true, ℕ}
use Rattle.cond.proofs.Tests.{both}
use Rattle.spelling.specs.Bytes.{same_bytes}
use Rattle.spelling.specs.Spelling.{digits, is_spelled}
use Rattle.spelling.proofs.SameBytes.{same_bytes_lem}
use Rattle.forms.specs.Places.{Place, Layout, fits, fixed, part, layout_width, shape, width}
use Rattle.forms.specs.Slots.{Slot}
use Rattle.block_lines.specs.Reading.{number_layout, word_layout}

-- fixed bytes, at least one
abbrev pub is_text : Place → Bool
is_text (fixed []) = false
is_text (fixed (b ∷ bs)) = true
is_text (part c f) = false

unfoldable pub is_closed : Layout → Bool
is_closed [] = false
is_closed (p ∷ []) = is_text p
is_closed (p ∷ q ∷ ps) = is_closed (q ∷ ps)

text_reach : (p : Place) (k : ℕ) (s : List ℕ) → is_text p ≡ true → fits p (take (width p) (drop k s)) ≡ true → width p + k ≤ length s
text_reach (fixed []) k s c h = absurd (false≢true c)
text_reach (fixed (b ∷ bs)) k s c h =
    let e : length (take (suc (length bs)) (drop k s)) ≡ suc (length bs) = ap length (same_bytes_lem (take (suc (length bs)) (drop k s)) (b ∷ bs) h) in
    let m : min (suc (length bs)) (length (drop k s)) ≤ length (drop k s) = min-le_right (suc (length bs)) (length (drop k s)) in
    omega (arith, length-take (suc (length bs)) (drop k s), length-drop k s)
text_reach (part c f) k s d h = absurd (false≢true d)

pub in_reach : (ps : Layout) (k : ℕ) (s : List ℕ) → is_closed ps ≡ true → shape ps k s ≡ true → layout_width ps + k ≤ length s
unfolding is_closed shape layout_width
in_reach [] k s c h = absurd (false≢true c)
in_reach (p ∷ []) k s c h = omega (arith, text_reach p k s c (both (fits p (take (width p) (drop k s))) true h).0)
in_reach (p ∷ q ∷ ps) k s c h =
    omega (arith, in_reach (q ∷ ps) (width p + k) s c (both (fits p (take (width p) (drop k s))) (shape (q ∷ ps) (width p + k) s) h).1)

-- a test that held says that the bytes reach
pub fits_within : (ps : Layout) (s : List ℕ) → is_closed ps ≡ true → (t : Bool) → t ≡ shape ps 0 s → t ≡ true → {k : ℕ} → k ≤ layout_width ps → k ≤ length s
fits_within ps s c t e h l = omega (arith, in_reach ps 0 s c (sym e ∙ h))

-- the layouts of a key and one value

module _ (key s : List ℕ) where
  pub word_shape : (word : List ℕ) → shape (word_layout key word) 0 s
      ≡ (same_bytes (take (length key) (drop 0 s)) key && (same_bytes (take (length word) (drop (length key) s)) word && same_bytes (take 1 (drop (length key + length word) s)) (10 ∷ [])))
  unfolding shape
  word_shape word =
      let q : length word + (length key + 0) ≡ length key + length word = omega arith in
      let e : length key + 0 ≡ length key = omega arith in
      rw (q, e, and-true)

  pub number_shape : (w : ℕ) (f : Slot) → shape (number_layout key w f) 0 s
      ≡ (same_bytes (take (length key) (drop 0 s)) key && (is_spelled (digits w) (take w (drop (length key) s)) && same_bytes (take 1 (drop (length key + w) s)) (10 ∷ [])))
  unfolding shape
  number_shape w f =
      let q : w + (length key + 0) ≡ length key + w = omega arith in
      let e : length key + 0 ≡ length key = omega arith in
      rw (q, e, and-true)
