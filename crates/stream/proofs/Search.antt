-- A search finds the first place, and what it does not find is nowhere at or after the start.
use Rattle.std.specs.Prelude.{Option, None, Some}
use Rattle.cond.proofs.Kit.{◌+◌, ◌-◌, ◌<◌, ◌≡◌, ◌≤◌, arith, length, length-drop, length-take, List, refl, suc, zero, ℕ}
use Rattle.stream.specs.Search.{FirstAt, first_among, first_from, found, place_or, not_found}
use Rattle.stream.specs.Strings.{Strings}
use Rattle.stream.specs.Window.{window}

module _ {R : Type 0} (n : ℕ) (valid : List ℕ → Option R) where
  -- what is found among c places from p on: none of them, or the one i behind p
  pub data Scanned (s : List ℕ) (c p : ℕ) : Type 0 where
    none_there : first_among n valid s c p ≡ not_found → ((i : ℕ) → i < c → valid (window n s (p + i)) ≡ None) → Scanned s c p
    one_there :
        (i : ℕ) (r : R) → first_among n valid s c p ≡ found (p + i) r → i < c → valid (window n s (p + i)) ≡ Some r
        → ((j : ℕ) → j < i → valid (window n s (p + j)) ≡ None) → Scanned s c p

  pub scanned : (s : List ℕ) (c p : ℕ) → Scanned s c p
  unfolding first_among
  scanned s zero p = none_there refl (λ i l. absurd (omega arith))
  scanned s (suc c) p = go (valid (window n s p)) refl (scanned s c (p + 1))
    where
      behind : (i : ℕ) → p + 1 + i ≡ p + suc i
      behind i = omega arith

      first : p + 0 ≡ p
      first = omega arith

      before : valid (window n s p) ≡ None → (c : ℕ) → ((i : ℕ) → i < c → valid (window n s (p + 1 + i)) ≡ None)
          → (i : ℕ) → i < suc c → valid (window n s (p + i)) ≡ None
      before e c h zero l = rw first e
      before e c h (suc i) l = rw behind at (h i (omega arith))

      later : valid (window n s p) ≡ None → Scanned s c (p + 1) → Scanned s (suc c) p
      later e (none_there f h) = none_there (rw e f) (before e c h)
      later e (one_there i r f l v h) = one_there (suc i) r (rw (e, ← behind i) f) (omega arith) (rw behind at v) (before e i h)

      go : (o : Option R) → valid (window n s p) ≡ o → Scanned s c (p + 1) → Scanned s (suc c) p
      go None e f = later e f
      go (Some r) e f = one_there 0 r (rw (e, first)) (omega arith) (rw first e) (λ j l. absurd (omega arith))

  -- "the first place": nothing valid stands before it, from the start on, and the string lies wholly inside
  pub found_first : (s : List ℕ) (start p : ℕ) (r : R) → first_from n valid s start ≡ found p r → FirstAt n valid s start p r
  unfolding first_from
  found_first s start p r h = go (scanned s (length s + 1 - (start + n)) start)
    where
      go : Scanned s (length s + 1 - (start + n)) start → FirstAt n valid s start p r
      go (none_there f g) = absurd (let y : ◌≡◌ {A = ℕ} 0 1 = cc in omega arith)
      go (one_there i q f l v g) =
          let at : p ≡ start + i = cc in
          let same : q ≡ r = cc in
          record {
            from_start = omega arith;
            inside = omega arith;
            there = rw (at, ← same) v;
            none_before = λ j l1 l2.
                let e : start + (j - start) ≡ j = omega arith in
                rw e at (g (j - start) (omega arith));
          }

  -- one place more
  pub next_place : (s : List ℕ) (p : ℕ) → p + n ≤ length s → first_from n valid s p ≡ place_or (valid (window n s p)) p (first_from n valid s (p + 1))
  unfolding first_from first_among
  next_place s p l =
      let e : length s + 1 - (p + n) ≡ suc (length s + 1 - (p + 1 + n)) = omega arith in
      rw e

  -- no place left, also where the start is past the end
  pub no_place : (s : List ℕ) (start : ℕ) → length s < start + n → first_from n valid s start ≡ not_found
  unfolding first_from first_among
  no_place s start l =
      let e : length s + 1 - (start + n) ≡ 0 = omega arith in
      rw e

  module _ (law : Strings n valid) where
    -- a valid window lies wholly inside
    pub valid_inside : (s : List ℕ) (p : ℕ) (r : R) → valid (window n s p) ≡ Some r → p + n ≤ length s
    valid_inside s p r v =
        let size = rw (length-take, length-drop) at (law.sized (window n s p) r v) in
        let h = law.some_byte in
        omega arith

    -- "no valid string lies wholly at or after the given start (also where the start is past the end)"
    pub not_found_lem : (s : List ℕ) (start : ℕ) → first_from n valid s start ≡ not_found → (p : ℕ) → start ≤ p → valid (window n s p) ≡ None
    unfolding first_from
    not_found_lem s start h p l = go (valid (window n s p)) refl (scanned s (length s + 1 - (start + n)) start)
      where
        go : (o : Option R) → valid (window n s p) ≡ o → Scanned s (length s + 1 - (start + n)) start → valid (window n s p) ≡ None
        go None e v = e
        go (Some r) e (none_there f g) =
            let inside = valid_inside s p r e in
            let at : start + (p - start) ≡ p = omega arith in
            rw at at (g (p - start) (omega arith))
        go (Some r) e (one_there i q f m v g) = absurd (let y : ◌≡◌ {A = ℕ} 0 1 = cc in omega arith)
