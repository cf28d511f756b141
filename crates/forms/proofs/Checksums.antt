-- A checksum over bytes that tell none does not see any, and stays below its limit.
use Rattle.cond.proofs.Kit.{[], ◌&&◌, ◌++◌, ◌+◌, ◌-◌, ◌<◌, ◌||◌, ◌∙◌, ◌∷◌, ◌≡◌, ap, arith, Bool, drop, drop_at, drop-drop, eqb, eqb-true, false, leb, leb-true, length, List, ltb, ltb-true, not, not-true, refl, suc, sym, take, true, zero, ℕ, ⊎_elim}
use lib.Bits.{bit_xor, xor_lt}
use Rattle.cond.specs.Pick.{pick}
use Rattle.cond.proofs.Parts.{drop_take}
use Rattle.cond.proofs.Tests.{both, either, either_way, or_left, or_right}
use Rattle.spelling.specs.Bytes.{all_are, xor_from}
use Rattle.spelling.specs.Spelling.{spell}
use Rattle.forms.specs.Checksum.{Checksum, Rule, checksum_of, even_ones, exclusive_or, total_by}
use Rattle.forms.specs.Places.{Place, Layout, bytes_of, fixed, has, is_of, part, placed, width}
use Rattle.forms.specs.Slots.{Slot, Values, is_checksum, same}
use Rattle.forms.proofs.Allowed.{all_drop, all_take}
use Rattle.forms.proofs.Layouts.{placed_length, roomy, roomy_layout, sound_place, sound_layout}
use Rattle.forms.proofs.Slots.{slot_self}

take_app : (n : ℕ) (a b : List ℕ) → take n (a ++ b) ≡ take n a ++ take (n - length a) b
take_app zero a b =
    let e : 0 - length a ≡ 0 = omega arith in
    sym (ap (λ (k : ℕ). take k b) e)
take_app (suc n) [] b =
    let e : suc n - 0 ≡ suc n = omega arith in
    sym (ap (λ (k : ℕ). take k b) e)
take_app (suc n) (x ∷ a) b =
    let e : n - length a ≡ suc n - suc (length a) = omega arith in
    ap (λ (t : List ℕ). x ∷ t) (take_app n a b ∙ ap (λ (k : ℕ). take n a ++ take k b) e)

-- the place tells no checksum
abbrev pub unchecked_place : Place → Bool
unchecked_place (fixed bs) = true
unchecked_place (part c f) = not (is_checksum f)

-- no place of the first n bytes tells one
unfoldable pub unchecked : Layout → ℕ → Bool
unchecked [] n = true
unchecked (p ∷ ps) n = eqb n 0 || (unchecked_place p && unchecked ps (n - width p))

-- no place of the n bytes behind the first m tells one
unfoldable pub unchecked_from : Layout → ℕ → ℕ → Bool
unchecked_from [] m n = true
unchecked_from (p ∷ ps) m n = pick (leb (width p) m) (unchecked_from ps (m - width p) n) (unchecked (p ∷ ps) (m + n))

-- bytes whose places tell no checksum are the same for values that differ in checksums alone
module _ (v w : Values) where
  -- the layout's values but for checksums
  abbrev Alike : Layout → Type 0
  Alike ps = (f : Slot) → has ps f ≡ true → is_checksum f ≡ false → v f ≡ w f

  behind_alike : (p : Place) (ps : Layout) → Alike (p ∷ ps) → Alike ps
  unfolding has
  behind_alike p ps e f h = e f (or_right (is_of f p) (has ps f) h)

  placed_alike : (p : Place) (ps : Layout) → Alike (p ∷ ps) → unchecked_place p ≡ true → placed p v ≡ placed p w
  unfolding has
  placed_alike (fixed bs) ps e h = refl
  placed_alike (part c f) ps e h = ap (spell c) (e f (or_left (same f f) (has ps f) (slot_self f)) (not-true (is_checksum f) h))

  front_alike : (ps : Layout) (n : ℕ) → Alike ps → sound_layout ps ≡ true → roomy_layout ps v ≡ true → roomy_layout ps w ≡ true → unchecked ps n ≡ true
      → take n (bytes_of ps v) ≡ take n (bytes_of ps w)
  unfolding bytes_of unchecked sound_layout roomy_layout
  front_alike [] n e s x y h = refl
  front_alike (p ∷ ps) n e s x y h =
      ⊎_elim (λ i. let z = eqb-true n 0 i in simp z)
      (λ i.
      let q = both (unchecked_place p) (unchecked ps (n - width p)) i in
      let a = both (sound_place p) (sound_layout ps) s in
      let b = both (roomy p v) (roomy_layout ps v) x in
      let c = both (roomy p w) (roomy_layout ps w) y in
      let l = placed_length p w a.0 c.0 in
      let t = front_alike ps (n - width p) (behind_alike p ps e) a.1 b.1 c.1 q.1 in
      ap (λ (u : List ℕ). take n (u ++ bytes_of ps v)) (placed_alike p ps e q.0) ∙ take_app n (placed p w) (bytes_of ps v)
      ∙ ap (λ (k : ℕ). take n (placed p w) ++ take (n - k) (bytes_of ps v)) l
      ∙ ap (λ (u : List ℕ). take n (placed p w) ++ u) t
      ∙ sym (take_app n (placed p w) (bytes_of ps w) ∙ ap (λ (k : ℕ). take n (placed p w) ++ take (n - k) (bytes_of ps w)) l))
      (either (eqb n 0) (unchecked_place p && unchecked ps (n - width p)) h)

  pub range_alike : (ps : Layout) (m n : ℕ) → Alike ps → sound_layout ps ≡ true → roomy_layout ps v ≡ true → roomy_layout ps w ≡ true → unchecked_from ps m n ≡ true
      → take n (drop m (bytes_of ps v)) ≡ take n (drop m (bytes_of ps w))
  unfolding bytes_of sound_layout roomy_layout unchecked_from
  range_alike [] m n e s x y h = refl
  range_alike (p ∷ ps) m n e s x y h =
      either_way (leb (width p) m)
      (λ q.
      let a = both (sound_place p) (sound_layout ps) s in
      let b = both (roomy p v) (roomy_layout ps v) x in
      let c = both (roomy p w) (roomy_layout ps w) y in
      let l = leb-true (width p) m q in
      let past : (u : Values) → length (placed p u) ≡ width p → drop m (placed p u ++ bytes_of ps u) ≡ drop (m - width p) (bytes_of ps u) =
      λ u k.
      let z : m ≡ width p + (m - width p) = omega arith in
      ap (λ (j : ℕ). drop j (placed p u ++ bytes_of ps u)) z ∙ sym (drop-drop (m - width p) (width p) (placed p u ++ bytes_of ps u))
      ∙ ap (drop (m - width p)) (drop_at (placed p u) (bytes_of ps u) (width p) k) in
      let i = range_alike ps (m - width p) n (behind_alike p ps e) a.1 b.1 c.1 (rw q at h) in
      ap (take n) (past v (placed_length p v a.0 b.0)) ∙ i ∙ sym (ap (take n) (past w (placed_length p w a.0 c.0))))
      (λ q. sym (drop_take m n _) ∙ ap (drop m) (front_alike (p ∷ ps) (m + n) e s x y (rw q at h)) ∙ drop_take m n _)

abbrev pub is_byte : ℕ → Bool
is_byte b = ltb b 256

xor_byte : (acc : ℕ) (s : List ℕ) → acc < 256 → all_are is_byte s ≡ true → xor_from acc s < 256
unfolding xor_from all_are
xor_byte acc [] h l = h
xor_byte acc (b ∷ s) h l =
    let e = both (ltb b 256) (all_are is_byte s) l in
    xor_byte (bit_xor acc b) s (xor_lt 8 acc b h (ltb-true b 256 e.0)) e.1

-- every checksum is below this
abbrev pub rule_limit : Rule → ℕ
rule_limit exclusive_or = 256
rule_limit even_ones = 2

pub checksum_lt : (c : Checksum) (s : List ℕ) → all_are is_byte s ≡ true → checksum_of c s < rule_limit c.rule
checksum_lt c s h = go c.rule
  where
    go : (m : Rule) → total_by m (take c.count (drop c.from s)) < rule_limit m
    go exclusive_or = xor_byte 0 _ (omega arith) (all_take is_byte c.count _ (all_drop is_byte c.from s h))
    go even_ones = omega arith
