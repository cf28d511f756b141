-- Repeated search finds the records that the bytes of the list hand out, in the same order.
use Rattle.std.specs.Prelude.{Option, None, Some}
use Rattle.cond.proofs.Kit.{◌+◌, ◌-◌, ◌<◌, ◌∙◌, ◌∷◌, ◌≡◌, ◌≤◌, arith, drop, length, length-drop, List, refl, suc, sym, zero, ℕ}
use Rattle.stream.specs.Answer.{records_of}
use Rattle.stream.specs.Heard.{all_records, heard_all, heard_at, heard_from}
use Rattle.stream.specs.Search.{first_among, first_from, go_on, search_from, search_times}
use Rattle.stream.specs.Strings.{Strings}
use Rattle.stream.specs.Window.{window}
use Rattle.stream.proofs.Apart.{ends_apart}
use Rattle.stream.proofs.Heard.{heard_place, heard_short}
use Rattle.stream.proofs.Records.{later_from, skip}
use Rattle.stream.proofs.Search.{Scanned, none_there, one_there, scanned}

module _ {R : Type 0} (n : ℕ) (valid : List ℕ → Option R) where
  -- places where no valid string stands add no record
  skip_places :
      (s : List ℕ) (p e c : ℕ) → ((i : ℕ) → i < e → valid (window n s (p + i)) ≡ None)
      → records_of (heard_from n valid s c (p + n)) ≡ records_of (heard_from n valid s (c - e) (p + n + e))
  skip_places s p e c h =
      skip n valid s e c (p + n) (λ i l.
      let x : p + n + i ≡ p + i + n = omega arith in
      rw x (heard_place n valid s (p + i) ∙ h i l))

  module _ (law : Strings n valid) where
    -- behind a valid string the next one ends n bytes further on at the earliest
    behind :
        (s : List ℕ) (c k : ℕ) (r : R) → 0 < c → heard_at n valid s k ≡ Some r
        → records_of (heard_from n valid s c k) ≡ r ∷ records_of (heard_from n valid s (c - n) (k + n))
    unfolding heard_from records_of
    behind s zero k r l h = absurd (omega arith)
    behind s (suc c) k r l h =
        let b = law.some_byte in
        let z : suc c - n ≡ c - (n - 1) = omega arith in
        let y : k + n ≡ k + 1 + (n - 1) = omega arith in
        rw (h, z, y, skip n valid s (n - 1) c (k + 1) (λ i m. none_behind (heard_at n valid s (k + 1 + i)) i m refl))
      where
        none_behind : (o : Option R) (i : ℕ) → i < n - 1 → heard_at n valid s (k + 1 + i) ≡ o → heard_at n valid s (k + 1 + i) ≡ None
        none_behind None i m e = e
        none_behind (Some q) i m e =
            let x : k + 1 + i ≡ k + (1 + i) = omega arith in
            absurd (ends_apart n valid law s k (1 + i) r q (omega arith) (omega arith) h (rw x at e))

    -- a search often enough finds all that end n or more bytes behind its start
    pub search_finds :
        (s : List ℕ) (t start : ℕ) → length s ≤ start + t
        → search_times n valid t s start ≡ records_of (heard_from n valid s (length s + 1 - (start + n)) (start + n))
    unfolding search_times first_from
    search_finds s zero start l =
        let b = law.some_byte in
        let z : length s + 1 - (start + n) ≡ 0 = omega arith in
        rw z (unfold heard_from records_of in refl)
    search_finds s (suc t) start l = go (λ a m. search_finds s t a m) (scanned n valid s (length s + 1 - (start + n)) start)
      where
        go : ((a : ℕ) → length s ≤ a + t → search_times n valid t s a ≡ records_of (heard_from n valid s (length s + 1 - (a + n)) (a + n)))
            → Scanned n valid s (length s + 1 - (start + n)) start
            → go_on (first_among n valid s (length s + 1 - (start + n)) start) (λ p. search_times n valid t s (p + n))
            ≡ records_of (heard_from n valid s (length s + 1 - (start + n)) (start + n))
        go again (none_there f h) =
            let z : length s + 1 - (start + n) - (length s + 1 - (start + n)) ≡ 0 = omega arith in
            rw (f, skip_places s start (length s + 1 - (start + n)) (length s + 1 - (start + n)) h, z) (unfold heard_from records_of in refl)
        go again (one_there i r f m v h) =
            let b = law.some_byte in
            let at : start + n + i ≡ start + i + n = omega arith in
            let left : length s + 1 - (start + n) - i - n ≡ length s + 1 - (start + i + n + n) = omega arith in
            rw (
              f,
              skip_places s start i (length s + 1 - (start + n)) h,
              at,
              behind s (length s + 1 - (start + n) - i) (start + i + n) r (omega arith) (heard_place n valid s (start + i) ∙ v),
              left,
              again (start + i + n) (omega arith),
            )

    -- "Repeated search, going on behind each string found, yields the same list": also from a later start, and past the end
    pub search_from_lem : (s : List ℕ) (start : ℕ) → search_from n valid s start ≡ all_records n valid (drop start s)
    unfolding search_from heard_all
    search_from_lem s start =
        let b = law.some_byte in
        let c : length s - start - (n - 1) ≡ length s + 1 - (start + n) = omega arith in
        let k : 1 + (n - 1) ≡ n = omega arith in
        search_finds s (length s) start (omega arith)
        ∙ sym
        (skip n valid (drop start s) (n - 1) (length (drop start s)) 1 (λ i l. heard_short n valid (drop start s) (1 + i) (omega arith))
        ∙ rw (length-drop, c, k, later_from n valid s start (length s + 1 - (start + n)) n (omega arith)))

    -- one search, and then on behind the string found
    pub search_goes_on : (s : List ℕ) (start : ℕ) → search_from n valid s start ≡ go_on (first_from n valid s start) (λ p. search_from n valid s (p + n))
    unfolding search_from
    search_goes_on s start =
        search_finds s (length s) start (omega arith)
        ∙ sym (search_finds s (suc (length s)) start (omega arith))
        ∙ (unfold search_times in refl)
