-- A ring as a list, oldest byte first: a byte stored at the oldest place becomes the newest.
use Rattle.cond.proofs.Kit.{[], ◌++◌, ◌+◌, ◌-◌, ◌<◌, ◌∙◌, ◌∷◌, ◌≡◌, ◌≤◌, add-one, ap, append_assoc, append-nil, arith, drop, drop-append-le, drop-drop, drop_of_length-le, drop-set-lt, ext_get_or, get_or, get_or-append-add, get_or-drop, get_or-take, le-ltb, length, length-append, length-drop, length-take, List, List·getD-append, lt-ltb, ltb, ltb-false, ltb-true, set, set_split, suc, sym, take, take-append-le, take-suc, take-suc-set, ℕ}
use Rattle.cond.proofs.Tests.{either_way}
use Rattle.stream.specs.Window.{last_of}
use Rattle.serial.specs.Shape.{longest}
use Rattle.listener.specs.Ring.{oldest_first, place_of, wrapped}

pub place_small : (at : ℕ) → place_of at < longest
place_small at = either_way (ltb at longest) (λ e. rw e (ltb-true at longest e)) (λ e. rw e (omega arith))

pub wrapped_small : (k : ℕ) → k < longest + longest → wrapped k < longest
wrapped_small k h = either_way (ltb k longest) (λ e. rw e (ltb-true k longest e)) (λ e. rw e (omega arith))

pub place_wrapped : (k : ℕ) → k < longest + longest → place_of (wrapped k) ≡ wrapped k
place_wrapped k h = rw (lt-ltb (wrapped k) longest (wrapped_small k h))

module _ (y : List ℕ) (at : ℕ) (h : at < longest) (size : length y ≡ longest) where
  pub ring_length : length (oldest_first at y) ≡ longest
  unfolding oldest_first
  ring_length = rw (length-append, length-drop, length-take) (omega arith)

  pub ring_byte : (i : ℕ) → i < longest → get_or (oldest_first at y) i 0 ≡ get_or y (wrapped (at + i)) 0
  unfolding oldest_first
  ring_byte i l =
      let front : length (drop at y) ≡ longest - at = rw length-drop (omega arith) in
      either_way (ltb (at + i) longest)
      (λ e.
      let m : at + i < longest = ltb-true _ _ e in
      let k : i < length (drop at y) = omega arith in
      rw (e, List·getD-append (drop at y) (take at y) 0 i k, get_or-drop))
      (λ e.
      let m : longest ≤ at + i = ltb-false _ _ e in
      let k : i ≡ length (drop at y) + (at + i - longest) = omega arith in
      let j : at + i - longest < at = omega arith in
      rw e
      (ap (λ (q : ℕ). get_or (drop at y ++ take at y) q 0) k ∙ get_or-append-add (drop at y) (take at y) (at + i - longest) 0
      ∙ get_or-take at y (at + i - longest) 0 j))

  pub ring_set : (b : ℕ) → oldest_first (wrapped (at + 1)) (set y at b) ≡ drop 1 (oldest_first at y ++ (b ∷ []))
  unfolding oldest_first
  ring_set b =
      let l : at < length y = omega arith in
      let one : 1 ≤ length (drop at y) = rw length-drop (omega arith) in
      let all : 1 ≤ length (drop at y ++ take at y) = rw (length-append, length-drop, length-take) (omega arith) in
      either_way (ltb (at + 1) longest)
      (λ e.
      let s : at < at + 1 = omega arith in
      rw (e, drop-append-le 1 (drop at y) (take at y) one, drop-drop 1 at y, drop-set-lt (at + 1) y at b s, append_assoc)
      (ap (λ (k : List ℕ). drop (at + 1) y ++ k) (rw add-one (take-suc-set y at b l))))
      (λ e.
      let m : longest ≤ at + 1 = ltb-false _ _ e in
      let z : at + 1 - longest ≡ 0 = omega arith in
      let n : length y ≤ at + 1 = omega arith in
      let n2 : length y ≤ suc at = omega arith in
      rw (e, drop-append-le 1 (drop at y) (take at y) one, drop-drop 1 at y, drop_of_length-le y n, z, append-nil, set_split y at b l, drop_of_length-le y n2))
      ∙ sym (drop-append-le 1 (drop at y ++ take at y) (b ∷ []) all)

  -- one byte more in a layout
  pub one_more : (z : List ℕ) (i j : ℕ) → i < longest → length z ≡ longest → j ≡ wrapped (at + i) → take i z ≡ take i (oldest_first at y)
      → take (i + 1) (set z i (get_or y j 0)) ≡ take (i + 1) (oldest_first at y)
  one_more z i j l s q e =
      let m : i < length z = omega arith in
      let k : i < length (oldest_first at y) = omega (arith, ring_length) in
      rw (add-one, take-suc-set z i (get_or y j 0) m, take-suc (oldest_first at y) i 0 k, ring_byte i l, e, q)

module _ (y : List ℕ) (at : ℕ) (h : at < longest) (size : length y ≡ longest) where
  -- the last n bytes stand in the ring from the place that is n before the next one
  pub last_bytes : (n : ℕ) → 0 < n → n ≤ longest → take n (oldest_first (wrapped (at + (longest - n))) y) ≡ last_of n (oldest_first at y)
  unfolding last_of
  last_bytes n l m =
      let low : at + (longest - n) < longest + longest = omega arith in
      let long : length (take n (oldest_first (wrapped (at + (longest - n))) y)) ≡ n = rw (length-take, turned low) (omega arith) in
      let same : length (drop (length (oldest_first at y) - n) (oldest_first at y)) ≡ n = rw (length-drop, ring_length y at h size) (omega arith) in
      ext_get_or 0 _ _ (long ∙ sym same) (λ i q. byte low i (rw long at q))
    where
      turned : at + (longest - n) < longest + longest → length (oldest_first (wrapped (at + (longest - n))) y) ≡ longest
      turned low = ring_length y (wrapped (at + (longest - n))) (wrapped_small (at + (longest - n)) low) size

      twice : (i : ℕ) → i < n → wrapped (wrapped (at + (longest - n)) + i) ≡ wrapped (at + (longest - n + i))
      twice i q =
          either_way (ltb (at + (longest - n)) longest)
          (λ e. let k : at + (longest - n) + i ≡ at + (longest - n + i) = omega arith in rw (e, k))
          (λ e.
          let f = ltb-false (at + (longest - n)) longest e in
          let a : at + (longest - n) - longest + i < longest = omega arith in
          let b : longest ≤ at + (longest - n + i) = omega arith in
          rw (e, lt-ltb _ longest a, le-ltb _ longest b) (omega arith))

      byte : at + (longest - n) < longest + longest → (i : ℕ) → i < n
          → get_or (take n (oldest_first (wrapped (at + (longest - n))) y)) i 0 ≡ get_or (drop (length (oldest_first at y) - n) (oldest_first at y)) i 0
      byte low i q =
          get_or-take n _ i 0 q
          ∙ ring_byte y (wrapped (at + (longest - n))) (wrapped_small (at + (longest - n)) low) size i (omega arith)
          ∙ ap (λ (k : ℕ). get_or y k 0) (twice i q)
          ∙ sym (rw (ring_length y at h size) (get_or-drop (longest - n) (oldest_first at y) i 0 ∙ ring_byte y at h size (longest - n + i) (omega arith)))

  -- behind one another where they end in front of the ring's end
  pub last_window : (n : ℕ) → 0 < n → n ≤ longest → wrapped (at + (longest - n)) + n ≤ longest
      → take n (drop (wrapped (at + (longest - n))) y) ≡ last_of n (oldest_first at y)
  unfolding oldest_first
  last_window n l m fits =
      let room : n ≤ length (drop (wrapped (at + (longest - n))) y) = rw length-drop (omega arith) in
      sym (take-append-le n _ (take (wrapped (at + (longest - n))) y) room) ∙ last_bytes n l m
