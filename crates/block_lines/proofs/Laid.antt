-- The stores of a line's key, value and LF are those of its layout.
use Rattle.cond.proofs.Kit.{[], ◌+◌, ◌∷◌, ◌≡◌, ◌≤◌, arith, length, List, ℕ}
use Rattle.spelling.specs.Bytes.{decimal}
use Rattle.spelling.specs.Stored.{stored}
use Rattle.forms.specs.Places.{Layout, layout_width}
use Rattle.forms.specs.Slots.{Slot, Values}
use Rattle.places.specs.Stores.{stores}
use Rattle.block_lines.specs.Reading.{number_layout, word_layout}
use Rattle.block_lines.specs.Stores.{Laid}

module _ (key o : List ℕ) (v : Values) where
  pub word_stores : (word : List ℕ) → stores (word_layout key word) 0 v o ≡ stored (stored (stored o 0 key) (length key) word) (length key + length word) (10 ∷ [])
  unfolding stores
  word_stores word =
      let q : length word + (length key + 0) ≡ length key + length word = omega arith in
      let e : length key + 0 ≡ length key = omega arith in
      rw (q, e)

  pub number_stores : (w : ℕ) (f : Slot) (n : ℕ) → v f ≡ n
      → stores (number_layout key w f) 0 v o ≡ stored (stored (stored o 0 key) (length key) (decimal w n)) (length key + w) (10 ∷ [])
  unfolding stores
  number_stores w f n h =
      let q : w + (length key + 0) ≡ length key + w = omega arith in
      let e : length key + 0 ≡ length key = omega arith in
      rw (h, q, e)

-- a bound on the layout's width is one on the answer
pub within : (ps : Layout) (v : Values) (n : ℕ) (o a : List ℕ) (m : ℕ) → Laid ps v n o a → layout_width ps ≤ m → Laid ps v n o a × (n ≤ m)
within ps v n o a m h l = (h, omega (arith, h.0))
