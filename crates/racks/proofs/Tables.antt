-- One call on a table that is not refused: its rack is told, and left with, what its own runs say; the other rack's rows stay.
use Rattle.cond.proofs.Kit.{[], ◌++◌, ◌<◌, ◌∙◌, ◌∷◌, ◌||◌, ◌≡◌, ◌≤◌, ◌⊎◌, add-one, ap, arith, Bool, eq-eqb, eqb, eqb-false, eqb-true, false, inl, inr, le-leb, leb, leb-true, length, length-set, List, ltb, ltb-true, ne_eqb, refl, subst, sym, true, ℕ}
use Rattle.std.specs.Prelude.{None, Option, Some}
use Rattle.cond.proofs.Tests.{both_hold}
use Rattle.record.specs.declared.Record.{Record}
use Rattle.runs.specs.declared.Run.{Run}
use Rattle.runs.specs.declared.second.Second.{Second}
use Rattle.runs.specs.Heard.{second_in}
use Rattle.runs.specs.Rows.{is_row, longer, single}
use Rattle.runs.proofs.Grown.{follows}
use Rattle.runs.proofs.Possible.{NewestPossible, Possible, newest_of, possible_row}
use Rattle.racks.specs.declared.Row.{Row}
use Rattle.racks.specs.Calls.{Call, Table, after, call, empty, own_of, told}
use Rattle.racks.specs.Rows.{After, added_to, is_of, is_rack, is_table, newest, newest_at, others, outcome_of, used_after, with_second, with_told}
use Rattle.racks.proofs.Alone.{Alone, Rack, alone_full, alone_join, alone_open, alone_by, alone_on, alone_with, rack_by}
use Rattle.racks.proofs.Answers.{added_none, added_told, with_full, with_join, with_open}
use Rattle.racks.proofs.Own.{count, ends, follows_some, newest_at_lem}
use Rattle.racks.proofs.Put.{joined_own, opened_other, opened_others, opened_own, other_own, others_set}
use Rattle.racks.proofs.RackRows.{Counted, counted, room}

abbrev pub table_of : ℕ → After → Table
table_of u a = record { rows = a.rows; used = used_after u a.answer }

-- an answer and the table that it leaves, where rack k has the runs of a
pub record Leaves (t : Table) (k : ℕ) (a : Alone) (b : After) : Type 0 where
  pub tells : outcome_of b.answer ≡ a.told
  pub full : length b.rows ≡ 64
  pub only : others b.rows (used_after t.used b.answer) ≡ false
  pub own_is : own_of k (table_of t.used b) ≡ a.runs
  pub other_is : (j : ℕ) → (k ≡ j → ⊥) → own_of j (table_of t.used b) ≡ own_of j t

module _ (t : Table) (k : ℕ) (l : k ≤ 1) (c : Counted t.rows t.used) where
  -- the newest row of rack k is of no other rack
  not_other : (j p : ℕ) → (k ≡ j → ⊥) → is_of k t.rows p ≡ true → is_of j t.rows p ≡ false
  not_other j p ne h = ne_eqb _ j (λ e. ne (sym (eqb-true _ k h) ∙ e))

  joins_leaves : (s : Second) → follows (own_of k t) s ≡ true → Leaves t k (alone_with (own_of k t) s) (with_second t.rows t.used k s)
  joins_leaves s p =
      let some = follows_some k t.rows t.used s p in
      let q = newest_at_lem k t.rows t.used some in
      let inside : newest_at k t.rows t.used < length t.rows = omega (arith, q.0, c.few, c.full) in
      let n = longer (newest k t.rows t.used) s in
      rw (with_join t.rows t.used k s p, alone_join (own_of k t) s p) record {
        tells = refl;
        full = simp length-set c.full;
        only = others_set k t.rows n (newest_at k t.rows t.used) t.used inside l c.only;
        own_is = joined_own k t.rows s t.used (omega (arith, c.few, c.full)) some;
        other_is = λ j ne. other_own k t.rows n (newest_at k t.rows t.used) t.used j inside (not_other j _ ne q.1) ne;
      }

  opens_leaves : (s : Second) → follows (own_of k t) s ≡ false → ltb (length (own_of k t)) 32 ≡ true → Leaves t k (alone_with (own_of k t) s) (with_second t.rows t.used k s)
  opens_leaves s p q =
      let inside : t.used < length t.rows = omega (arith, room t.rows t.used k c l (ltb-true (length (own_of k t)) 32 q), c.full) in
      rw (with_open t.rows t.used k s p q, alone_open (own_of k t) s p q, add-one) record {
        tells = refl;
        full = simp length-set c.full;
        only = opened_others k t.rows (single s) t.used inside l c.only;
        own_is = opened_own k t.rows (single s) t.used inside;
        other_is = λ j ne. opened_other k t.rows (single s) t.used j inside ne;
      }

  with_leaves : (s : Second) (j f : Bool) → follows (own_of k t) s ≡ j → ltb (length (own_of k t)) 32 ≡ f → Leaves t k (alone_with (own_of k t) s) (with_second t.rows t.used k s)
  with_leaves s true f p q = joins_leaves s p
  with_leaves s false true p q = opens_leaves s p q
  with_leaves s false false p q =
      rw (with_full t.rows t.used k s p q, alone_full (own_of k t) s p q) record { tells = refl; full = c.full; only = c.only; own_is = refl; other_is = λ j ne. refl }

  told_leaves : (m : Option Second) → Leaves t k (alone_on (own_of k t) m) (with_told t.rows t.used k m)
  told_leaves (Some s) = with_leaves s _ _ refl refl
  told_leaves None = record { tells = refl; full = c.full; only = c.only; own_is = refl; other_is = λ j ne. refl }

pub leaves : (t : Table) (k : ℕ) (r : Record) → k ≤ 1 → is_table t.rows t.used ≡ true → Leaves t k (alone_by (own_of k t) r) (added_to t.rows t.used k r)
leaves t k r l h = rw (added_told t.rows t.used k r (le-leb k 1 l) h _ refl) (told_leaves t k l (counted t.rows t.used h) (second_in r))

-- a table that only these calls wrote, from an empty one
pub record Good (t : Table) : Type 0 where
  pub full : length t.rows ≡ 64
  pub only : others t.rows t.used ≡ false
  pub racks : (k : ℕ) → k ≤ 1 → Rack (own_of k t)

pub good_empty : (rows : List Row) → length rows ≡ 64 → Good (empty rows)
good_empty rows h = record { full = h; only = refl; racks = λ k l. record { few = omega arith; newest = tt } }

-- it is a table
holds_by : (k : ℕ) (t : Table) (b : Bool) → eqb (length (own_of k t)) 0 ≡ b → Rack (own_of k t) → (b || is_row (newest k t.rows t.used)) ≡ true
holds_by k t true h c = refl
holds_by k t false h c =
    possible_row _ (newest_by (ends k t.rows t.used))
  where
    newest_by : (own_of k t ≡ []) ⊎ ((p : List Run) × (own_of k t ≡ p ++ (newest k t.rows t.used ∷ []))) → Possible (newest k t.rows t.used)
    newest_by (inl e) = absurd (eqb-false (length (own_of k t)) 0 h (ap length e))
    newest_by (inr (p, e)) = newest_of p (newest k t.rows t.used) (subst NewestPossible e c.newest)

rack_holds_lem : (k : ℕ) (t : Table) → k ≤ 1 → Good t → is_rack (length (own_of k t)) (newest k t.rows t.used) ≡ true
unfolding is_rack
rack_holds_lem k t l g = both_hold _ _ (le-leb (length (own_of k t)) 32 (g.racks k l).few) (holds_by k t _ refl (g.racks k l))

pub good_table : (t : Table) → Good t → is_table t.rows t.used ≡ true
unfolding is_table
good_table t g =
    let few : t.used ≤ 64 = omega (arith, count t.rows t.used g.only, (g.racks 0 (omega arith)).few, (g.racks 1 (omega arith)).few) in
    rw (eq-eqb (length t.rows) 64 g.full, le-leb t.used 64 few, g.only, rack_holds_lem 0 t (omega arith) g, rack_holds_lem 1 t (omega arith) g)

-- and stays one; what holds of the changed rack and of the others holds of each
racks_by : (t u : Table) (k : ℕ) → Rack (own_of k u) → ((j : ℕ) → (k ≡ j → ⊥) → own_of j u ≡ own_of j t) → Good t → (j : ℕ) → j ≤ 1 → (b : Bool) → eqb k j ≡ b → Rack (own_of j u)
racks_by t u k c f g j l true h = subst (λ (m : ℕ). Rack (own_of m u)) (eqb-true k j h) c
racks_by t u k c f g j l false h = subst Rack (sym (f j (eqb-false k j h))) (g.racks j l)

-- what a call does to a good table
pub record Called (t : Table) (c : Call) : Type 0 where
  pub good : Good (after t c)
  pub other_is : (j : ℕ) → (c.rack ≡ j → ⊥) → own_of j (after t c) ≡ own_of j t

pub tells : (t : Table) (k : ℕ) (r : Record) → k ≤ 1 → Good t → (told t (call k r) ≡ (alone_by (own_of k t) r).told) × (own_of k (after t (call k r)) ≡ (alone_by (own_of k t) r).runs)
tells t k r l g = let s = leaves t k r l (good_table t g) in (s.tells, s.own_is)

called_by : (t : Table) (c : Call) (b : Bool) → leb c.rack 1 ≡ b → Good t → Called t c
called_by t c true h g =
    let l = leb-true c.rack 1 h in
    let s = leaves t c.rack c.given l (good_table t g) in
    let own_rack = subst Rack (sym s.own_is) (rack_by (own_of c.rack t) c.given (g.racks c.rack l)) in
    record { good = record { full = s.full; only = s.only; racks = λ j m. racks_by t (after t c) c.rack own_rack s.other_is g j m _ refl }; other_is = s.other_is }
called_by t c false h g =
    let same : after t c ≡ t = ap (table_of t.used) (added_none t.rows t.used c.rack c.given h) in
    record { good = subst Good (sym same) g; other_is = λ j ne. ap (own_of j) same }

pub called : (t : Table) (c : Call) → Good t → Called t c
called t c g = called_by t c _ refl g
