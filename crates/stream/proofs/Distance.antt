-- Refusal 13 never occurs: the distance counts the bytes since the last record, and a valid string ends n or more bytes behind it.
use Rattle.std.specs.Prelude.{Option, None, Some}
use Rattle.cond.proofs.Kit.{[], ◌++◌, ◌+◌, ◌-◌, ◌<◌, ◌∙◌, ◌∷◌, ◌≡◌, ◌≤◌, ap, arith, le-ltb, length, length-append, List, ltb, ltb-false, ltb-true, min, refl, suc, sym, zero, ℕ}
use Rattle.cond.proofs.Tests.{either_way}
use Rattle.stream.specs.Answer.{Answer, handed, handed_out, nothing, refused}
use Rattle.stream.specs.Distance.{Fits, Since, State, distance_after, fresh, step_answer, step_next, unless_overlap}
use Rattle.stream.specs.Heard.{heard_all, heard_at}
use Rattle.stream.specs.Listener.{kept_after, kept_answer}
use Rattle.stream.specs.Machine.{answers, state_after}
use Rattle.stream.specs.Strings.{Strings}
use Rattle.stream.specs.Window.{last_of}
use Rattle.stream.proofs.Apart.{ends_apart}
use Rattle.stream.proofs.Heard.{heard_some, heard_stays}
use Rattle.stream.proofs.Listener.{hears_all, hit_heard, kept_step}
use Rattle.stream.proofs.Machine.{reached, same_answers}
use Rattle.stream.proofs.Window.{length_last, none_last}

module _ {R : Type 0} (m n : ℕ) (valid : List ℕ → Option R) where
  -- refusal 11 does not name a state that a step leaves
  pub fits_next : (s : State) (b : ℕ) → Fits m n (step_next m n valid s b)
  unfolding step_next kept_after
  fits_next s b =
      record {
        kept_fits = rw length_last (omega arith);
        distance_fits = capped (step_answer n valid s b);
      }
    where
      capped : (a : Answer R) → distance_after n s.distance a ≤ n
      capped (handed r) = omega arith
      capped nothing = omega arith
      capped (refused c) = omega arith

  -- where a byte ends a valid string, the distance held before it is not under n-1
  not_under :
      Strings n valid → (p : List ℕ) (b d : ℕ) (r : R) → Since n valid p d → heard_at n valid (p ++ (b ∷ [])) (length p + 1) ≡ Some r → n - 1 ≤ d
  not_under law p b d r since h =
      either_way (ltb d (n - 1))
      (λ e.
      let l = ltb-true d (n - 1) e in
      let last = since.last_there (omega arith) in
      let b1 = law.some_byte in
      let fits = (heard_some n valid p (length p - d) last.0 last.1).0 in
      let at : length p - d + (d + 1) ≡ length p + 1 = omega arith in
      absurd
      (ends_apart n valid law (p ++ (b ∷ [])) (length p - d) (d + 1) last.0 r (omega arith) (omega arith)
      (heard_stays n valid p (b ∷ []) (length p - d) (omega arith) ∙ last.1) (rw at h)))
      (ltb-false d (n - 1))

  -- the answer is the record or nothing
  never_overlap :
      Strings n valid → (p : List ℕ) (b d : ℕ) → Since n valid p d
      → (o : Option R) → heard_at n valid (p ++ (b ∷ [])) (length p + 1) ≡ o → unless_overlap n d o ≡ handed_out o
  never_overlap law p b d since None h = refl
  never_overlap law p b d since (Some r) h = rw (le-ltb d (n - 1) (not_under law p b d r since h))

  -- the distance goes on counting
  since_next :
      (p : List ℕ) (b d : ℕ) → Since n valid p d
      → (o : Option R) → heard_at n valid (p ++ (b ∷ [])) (length p + 1) ≡ o → Since n valid (p ++ (b ∷ [])) (distance_after n d (handed_out o))
  since_next p b d since (Some r) h =
      record {
        capped = omega arith;
        none_since = λ i l1 l2. absurd (omega arith);
        last_there = λ l. (r, let e : length p + 1 - 0 ≡ length p + 1 = omega arith in rw (length-append, e) h);
      }
  since_next p b d since None h = record { capped = omega arith; none_since = none_still; last_there = there }
    where
      none_still : (i : ℕ) → i < min n (d + 1) → i < length (p ++ (b ∷ [])) → heard_at n valid (p ++ (b ∷ [])) (length (p ++ (b ∷ [])) - i) ≡ None
      none_still zero l1 l2 = let e : length p + 1 - 0 ≡ length p + 1 = omega arith in rw (length-append, e) h
      none_still (suc i) l1 l2 =
          let l3 = rw length-append at l2 in
          let e : length p + 1 - suc i ≡ length p - i = omega arith in
          rw (length-append, e) (heard_stays n valid p (b ∷ []) (length p - i) (omega arith) ∙ since.none_since i (omega arith) (omega arith))

      there : min n (d + 1) < n → (r : R) × (heard_at n valid (p ++ (b ∷ [])) (length (p ++ (b ∷ [])) - min n (d + 1)) ≡ Some r)
      there l =
          let last = since.last_there (omega arith) in
          let e : length p + 1 - min n (d + 1) ≡ length p - d = omega arith in
          (last.0, rw (length-append, e) (heard_stays n valid p (b ∷ []) (length p - d) (omega arith) ∙ last.1))

  module _ (law : Strings n valid) (room : n ≤ m + 1) where
    -- what holds between the bytes fed so far and the state
    record Reached (p : List ℕ) (s : State) : Type 0 where
      kept_is : s.kept ≡ last_of m p
      since : Since n valid p s.distance

    reached_fresh : Reached [] (fresh n)
    reached_fresh =
        record {
          kept_is = sym (none_last m);
          since = record { capped = omega arith; none_since = λ i l1 l2. absurd (omega arith); last_there = λ l. absurd (omega arith) };
        }

    -- the answer in a state that is reached
    answer_is : (p : List ℕ) (s : State) (b : ℕ) → Reached p s → step_answer n valid s b ≡ kept_answer n valid s.kept b
    unfolding step_answer
    answer_is p s b c = rw (c.kept_is, hit_heard m n valid room p b) (never_overlap law p b s.distance c.since _ refl)

    reached_next : (p : List ℕ) (s : State) (b : ℕ) → Reached p s → Reached (p ++ (b ∷ [])) (step_next m n valid s b)
    unfolding step_next
    reached_next p s b c =
        record {
          kept_is = rw c.kept_is (kept_step m p b);
          since = rw (answer_is p s b c, c.kept_is, hit_heard m n valid room p b) (since_next p b s.distance c.since _ refl);
        }

    -- after any bytes
    after : (s : List ℕ) → Reached s (state_after (step_next m n valid) (fresh n) s)
    after s = reached (step_next m n valid) Reached reached_next [] (fresh n) s reached_fresh

    -- "The kept bytes are always the last n-1 fed": here the last m
    pub step_keeps : (s : List ℕ) → (state_after (step_next m n valid) (fresh n) s).kept ≡ last_of m s
    step_keeps s = (after s).kept_is

    -- "the distance since the last record, capped at n"
    pub step_counts : (s : List ℕ) → Since n valid s (state_after (step_next m n valid) (fresh n) s).distance
    step_counts s = (after s).since

    -- the step over the kept bytes and the distance answers as the listener over the kept bytes alone
    pub step_hears : (s : List ℕ) → answers (step_next m n valid) (step_answer n valid) (fresh n) s ≡ heard_all n valid s
    unfolding step_next
    step_hears s =
        same_answers (step_next m n valid) (step_answer n valid) (kept_after m) (kept_answer n valid) Alike
        next_alike answers_alike (fresh n) [] s ([], reached_fresh, refl)
        ∙ hears_all m n valid room s
      where
        Alike : State → List ℕ → Type 0
        Alike t kept = (p : List ℕ) × Reached p t × (t.kept ≡ kept)

        next_alike : (t : State) (kept : List ℕ) (b : ℕ) → Alike t kept → Alike (step_next m n valid t b) (kept_after m kept b)
        next_alike t kept b (p, c, e) = (p ++ (b ∷ []), reached_next p t b c, ap (λ l. kept_after m l b) e)

        answers_alike : (t : State) (kept : List ℕ) (b : ℕ) → Alike t kept → step_answer n valid t b ≡ kept_answer n valid kept b
        answers_alike t kept b (p, c, e) = answer_is p t b c ∙ ap (λ l. kept_answer n valid l b) e
