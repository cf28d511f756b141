-- Calls one after the other, from a table that only these calls wrote: what a rack is told and its rows depend on its own records alone.
use Rattle.cond.proofs.Kit.{[], ◌∙◌, ◌∷◌, ◌≡◌, ◌≤◌, ap, Bool, eqb, eqb-false, eqb-true, false, length, List, refl, subst, sym, true, ℕ}
use Rattle.record.specs.declared.Record.{Record}
use Rattle.runs.specs.declared.Run.{Run}
use Rattle.racks.specs.declared.Row.{Row}
use Rattle.racks.specs.Calls.{Call, Table, after, after_all, call, empty, own_of, records_of, told, told_to}
use Rattle.racks.specs.Rows.{is_table}
use Rattle.racks.proofs.Alone.{alone_by, alone_runs, alone_told}
use Rattle.racks.proofs.Tables.{Good, called, good_empty, leaves, tells}

-- what a rack is told and its rows are those of the rack alone
record ByOwn (k : ℕ) (t : Table) (cs : List Call) : Type 0 where
  pub told_is : told_to k t cs ≡ alone_told (own_of k t) (records_of k cs)
  pub own_is : own_of k (after_all t cs) ≡ alone_runs (own_of k t) (records_of k cs)

by_call : (k : ℕ) (t : Table) (c : Call) (cs : List Call) → k ≤ 1 → Good t → (b : Bool) → eqb c.rack k ≡ b → ByOwn k (after t c) cs → ByOwn k t (c ∷ cs)
by_call k t c cs l g true h ih =
    let e = eqb-true c.rack k h in
    let s = subst (λ (j : ℕ). (told t (call j c.given) ≡ (alone_by (own_of k t) c.given).told) × (own_of k (after t (call j c.given)) ≡ (alone_by (own_of k t) c.given).runs)) (sym e) (tells t k c.given l g) in
    record {
      told_is = rw (h, s.0, ih.told_is, s.1);
      own_is = rw h (ih.own_is ∙ ap (λ (ns : List Run). alone_runs ns (records_of k cs)) s.1);
    }
by_call k t c cs l g false h ih =
    let same = (called t c g).other_is k (eqb-false c.rack k h) in
    record {
      told_is = rw h (ih.told_is ∙ ap (λ (ns : List Run). alone_told ns (records_of k cs)) same);
      own_is = rw h (ih.own_is ∙ ap (λ (ns : List Run). alone_runs ns (records_of k cs)) same);
    }

by_own : (k : ℕ) (t : Table) (cs : List Call) → k ≤ 1 → Good t → ByOwn k t cs
by_own k t [] l g = record { told_is = refl; own_is = refl }
by_own k t (c ∷ cs) l g = by_call k t c cs l g _ refl (by_own k (after t c) cs l (called t c g).good)

pub good_all : (t : Table) (cs : List Call) → Good t → Good (after_all t cs)
good_all t [] g = g
good_all t (c ∷ cs) g = good_all (after t c) cs (called t c g).good

pub isolated : (k : ℕ) → k ≤ 1 → (rows rows' : List Row) → length rows ≡ 64 → length rows' ≡ 64 → (cs ds : List Call) → records_of k cs ≡ records_of k ds
    → (told_to k (empty rows) cs ≡ told_to k (empty rows') ds) × (own_of k (after_all (empty rows) cs) ≡ own_of k (after_all (empty rows') ds))
isolated k l rows rows' f f' cs ds e =
    let a = by_own k (empty rows) cs l (good_empty rows f) in
    let b = by_own k (empty rows') ds l (good_empty rows' f') in
    (a.told_is ∙ ap (alone_told []) e ∙ sym b.told_is, a.own_is ∙ ap (alone_runs []) e ∙ sym b.own_is)

pub own_alone : (k : ℕ) → k ≤ 1 → (t u : Table) → is_table t.rows t.used ≡ true → is_table u.rows u.used ≡ true → own_of k t ≡ own_of k u → (r : Record)
    → (told t (call k r) ≡ told u (call k r)) × (own_of k (after t (call k r)) ≡ own_of k (after u (call k r)))
own_alone k l t u g h e r =
    let a = leaves t k r l g in
    let b = leaves u k r l h in
    (a.tells ∙ ap (λ (ns : List Run). (alone_by ns r).told) e ∙ sym b.tells, a.own_is ∙ ap (λ (ns : List Run). (alone_by ns r).runs) e ∙ sym b.own_is)

-- a rack without records has no rows
pub none_own : (k : ℕ) → k ≤ 1 → (rows : List Row) → length rows ≡ 64 → (cs : List Call) → records_of k cs ≡ [] → own_of k (after_all (empty rows) cs) ≡ []
none_own k l rows f cs e = (by_own k (empty rows) cs l (good_empty rows f)).own_is ∙ ap (alone_runs []) e
