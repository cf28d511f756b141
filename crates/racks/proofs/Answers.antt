-- What a call does, by its tests; a refusal changes nothing.
use Rattle.cond.proofs.Kit.{◌<◌, ◌∙◌, ◌≡◌, arith, Bool, false, false≢true, leb, length, List, ltb, refl, true, ℕ}
use Rattle.std.specs.Prelude.{None, Option, Some}
use Rattle.record.specs.declared.Record.{Record}
use Rattle.record.specs.declared.refusal.Refusal.TheVariants as refusal
use Rattle.runs.specs.declared.second.Second.{Second}
use Rattle.runs.specs.Heard.{second_in}
use Rattle.runs.proofs.Grown.{follows}
use Rattle.racks.specs.declared.Row.{Row}
use Rattle.record.specs.Answers.{number_in}
use Rattle.racks.specs.Rows.{After, added_to, is_refusal, is_table, joined, opened, outcome_of, own, unchanged, used_after, with_second, with_told}
use Rattle.racks.proofs.Own.{joins_is}

module _ (rows : List Row) (u k : ℕ) where
  module _ (s : Second) where
    pub with_join : follows (own k rows u) s ≡ true → with_second rows u k s ≡ joined rows u k s
    unfolding with_second
    with_join h = rw (joins_is k rows u s ∙ h)

    pub with_open : follows (own k rows u) s ≡ false → ltb (length (own k rows u)) 32 ≡ true → with_second rows u k s ≡ opened rows u k s
    unfolding with_second
    with_open h l = rw (joins_is k rows u s ∙ h, l)

    pub with_full : follows (own k rows u) s ≡ false → ltb (length (own k rows u)) 32 ≡ false → with_second rows u k s ≡ unchanged refusal.NoRow rows
    unfolding with_second
    with_full h l = rw (joins_is k rows u s ∙ h, l)

  module _ (r : Record) where
    pub added_none : leb k 1 ≡ false → added_to rows u k r ≡ unchanged refusal.NoRack rows
    unfolding added_to
    added_none h = rw h

    pub added_bad : leb k 1 ≡ true → is_table rows u ≡ false → added_to rows u k r ≡ unchanged refusal.BadTable rows
    unfolding added_to
    added_bad l h = rw (l, h)

    pub added_told : leb k 1 ≡ true → is_table rows u ≡ true → (t : Option Second) → second_in r ≡ t → added_to rows u k r ≡ with_told rows u k t
    unfolding added_to
    added_told l h t e = rw (l, h, e)

-- either a refusal, with all as it was, or a second that was told
abbrev Fair : List Row → ℕ → After → Type 0
Fair rows u a = is_refusal (outcome_of a.answer) ≡ true → (a.rows ≡ rows) × (used_after u a.answer ≡ u)

module _ (rows : List Row) (u k : ℕ) where
  with_fair : (s : Second) (j l : Bool) → follows (own k rows u) s ≡ j → ltb (length (own k rows u)) 32 ≡ l → Fair rows u (with_second rows u k s)
  with_fair s true l p q = rw (with_join rows u k s p) (λ h. absurd (false≢true h))
  with_fair s false true p q = rw (with_open rows u k s p q) (λ h. absurd (false≢true h))
  with_fair s false false p q = rw (with_full rows u k s p q) (λ h. (refl, refl))

  fair_by : (r : Record) (a b : Bool) (t : Option Second) → leb k 1 ≡ a → is_table rows u ≡ b → second_in r ≡ t → Fair rows u (added_to rows u k r)
  fair_by r false b t n p e = rw (added_none rows u k r n) (λ h. (refl, refl))
  fair_by r true false t n p e = rw (added_bad rows u k r n p) (λ h. (refl, refl))
  fair_by r true true (Some s) n p e = rw (added_told rows u k r n p _ e) (with_fair s _ _ refl refl)
  fair_by r true true None n p e = rw (added_told rows u k r n p _ e) (λ h. (refl, refl))

  pub refusals : (r : Record) → Fair rows u (added_to rows u k r)
  refusals r = fair_by r _ _ _ refl refl refl

  -- a table that can be is not refused with 21
  with_number : (s : Second) (j l : Bool) → follows (own k rows u) s ≡ j → ltb (length (own k rows u)) 32 ≡ l → number_in (outcome_of (with_second rows u k s).answer) < 21
  with_number s true l p q = rw (with_join rows u k s p) (omega arith)
  with_number s false true p q = rw (with_open rows u k s p q) (omega arith)
  with_number s false false p q = rw (with_full rows u k s p q) (omega arith)

  number_by_lem : (r : Record) (a : Bool) → leb k 1 ≡ a → is_table rows u ≡ true → (t : Option Second) → second_in r ≡ t → number_in (outcome_of (added_to rows u k r).answer) < 21
  number_by_lem r false n p t e = rw (added_none rows u k r n) (omega arith)
  number_by_lem r true n p (Some s) e = rw (added_told rows u k r n p _ e) (with_number s _ _ refl refl)
  number_by_lem r true n p None e = rw (added_told rows u k r n p _ e) (omega arith)

  pub table_number : (r : Record) → is_table rows u ≡ true → number_in (outcome_of (added_to rows u k r).answer) < 21
  table_number r p = number_by_lem r _ refl p _ refl
