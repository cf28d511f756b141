-- Nothing is lost at the boundary between two pieces of a stream, and nothing is found twice: a string that ends in a piece begins there or
-- in the n-1 bytes in front of it, and those alone hold no whole string.
use Rattle.std.specs.Prelude.{Option, None, Some}
use Rattle.cond.proofs.Kit.{◌++◌, ◌+◌, ◌-◌, ◌∙◌, ◌∷◌, ◌≡◌, ◌≤◌, ap, arith, drop, drop-append-le, length, length-append, List, refl, suc, sym, zero, ℕ}
use Rattle.stream.specs.Answer.{handed_out, records_of}
use Rattle.stream.specs.Heard.{heard_all, heard_at, heard_from}
use Rattle.stream.specs.Search.{search_from}
use Rattle.stream.specs.Strings.{Strings}
use Rattle.stream.specs.Window.{last_of}
use Rattle.stream.proofs.Heard.{heard_short, heard_stays}
use Rattle.stream.proofs.Records.{skip}
use Rattle.stream.proofs.Repeated.{search_finds, search_from_lem}

module _ {R : Type 0} (n : ℕ) (valid : List ℕ → Option R) where
  -- the records of c bytes and of the d bytes behind them
  split : (s : List ℕ) (c d k : ℕ)
      → records_of (heard_from n valid s (c + d) k) ≡ records_of (heard_from n valid s c k) ++ records_of (heard_from n valid s d (k + c))
  unfolding heard_from records_of
  split s zero d k =
      let e : 0 + d ≡ d = omega arith in
      let f : k + 0 ≡ k = omega arith in
      rw (e, f)
  split s (suc c) d k =
      let e : suc c + d ≡ suc (c + d) = omega arith in
      let f : k + suc c ≡ k + 1 + c = omega arith in
      rw (e, f) (go (heard_at n valid s k) (split s c d (k + 1)))
    where
      go : (o : Option R)
          → records_of (heard_from n valid s (c + d) (k + 1)) ≡ records_of (heard_from n valid s c (k + 1)) ++ records_of (heard_from n valid s d (k + 1 + c))
          → records_of (handed_out o ∷ heard_from n valid s (c + d) (k + 1))
          ≡ records_of (handed_out o ∷ heard_from n valid s c (k + 1)) ++ records_of (heard_from n valid s d (k + 1 + c))
      go None h = h
      go (Some r) h = ap (λ (l : List R). r ∷ l) h

  -- what comes later changes nothing
  stays : (s t : List ℕ) (c k : ℕ) → k + c ≤ length s + 1 → heard_from n valid (s ++ t) c k ≡ heard_from n valid s c k
  unfolding heard_from
  stays s t zero k l = refl
  stays s t (suc c) k l = rw (heard_stays n valid s t k (omega arith), stays s t c (k + 1) (omega arith))

  module _ (law : Strings n valid) where
    -- the records that end in a piece are those of the piece behind the last n-1 bytes in front of it
    ends_in_piece : (a p : List ℕ) → records_of (heard_from n valid (a ++ p) (length p) (1 + length a)) ≡ search_from n valid (last_of (n - 1) a ++ p) 0
    unfolding search_from last_of
    ends_in_piece a p =
        let b = law.some_byte in
        let d : ℕ = length a - (n - 1) in
        let e : ℕ = n - 1 - length a in
        let count : length p - e ≡ length a + length p + 1 - (d + n) = omega arith in
        let place : 1 + length a + e ≡ d + n = omega arith in
        let size : length (a ++ p) ≡ length a + length p = length-append a p in
        skip n valid (a ++ p) e (length p) (1 + length a) (λ i l. heard_short n valid (a ++ p) (1 + length a + i) (omega arith))
        ∙ rw (count, place, ← size) (sym (search_finds n valid law (a ++ p) (length (a ++ p)) d (omega arith)))
        ∙ search_from_lem n valid law (a ++ p) d
        ∙ rw (drop-append-le d a p (omega arith)) (sym (search_from_lem n valid law (drop d a ++ p) 0))

    -- the records of a stream, and those of one piece more
    pub boundary : (a p : List ℕ) → search_from n valid (a ++ p) 0 ≡ search_from n valid a 0 ++ search_from n valid (last_of (n - 1) a ++ p) 0
    unfolding heard_all
    boundary a p =
        search_from_lem n valid law (a ++ p) 0
        ∙ rw (length-append, split (a ++ p) (length a) (length p) 1, stays a p (length a) 1 (omega arith), ends_in_piece a p, search_from_lem n valid law a 0)
