-- A call is refused and changes nothing, or its second is one more of those that its rack told, and opens a row where it follows none of the rack's runs.
use Rattle.cond.proofs.Kit.{[], ◌++◌, ◌<◌, ◌∙◌, ◌∷◌, ◌≡◌, ◌≤◌, ◌⊎◌, add-one, ap, append-nil, arith, Bool, eqb-true, false, inl, inr, leb, leb-true, length, List, ltb, ltb-true, map, not, refl, set, subst, suc, sym, take, take-suc-set, true, zero, ℕ}
use Rattle.std.specs.Prelude.{None, Option, Some}
use mathlib.Core.List.{map-append}
use lib.Seq.{map-set_same}
use Rattle.cond.specs.Pick.{pick}
use Rattle.runs.specs.declared.Run.{Run}
use Rattle.runs.specs.declared.second.Second.{Second}
use Rattle.runs.specs.Heard.{second_in}
use Rattle.runs.specs.Rows.{longer, single}
use Rattle.runs.proofs.Grown.{follows, grown}
use Rattle.racks.specs.declared.Row.{Row}
use Rattle.racks.specs.Calls.{Call, Opening, Table, in_use, opening_of, own_of}
use Rattle.racks.specs.Rows.{After, added_to, is_refusal, newest, newest_at, no_row, outcome_of, row_at, with_second}
use Rattle.racks.proofs.Answers.{added_none, added_told, with_full, with_join, with_open}
use Rattle.racks.proofs.Own.{follows_some, newest_at_lem}
use Rattle.racks.proofs.Put.{joined_own, opened_own}
use Rattle.racks.proofs.RackRows.{Counted, counted, room}
use Rattle.racks.proofs.Tables.{Good, good_table, table_of}

map_take : (i : ℕ) (rows : List Row) → map opening_of (take i rows) ≡ take i (map opening_of rows)
map_take zero rows = refl
map_take (suc i) [] = refl
map_take (suc i) (y ∷ rows) = ap (λ (os : List Opening). opening_of y ∷ os) (map_take i rows)

-- the opening of a row for s, where it follows none of these runs
abbrev pub opening_for : List Run → ℕ → Second → List Opening
opening_for ns k s = pick (not (follows ns s)) (record { rack = k; first = s } ∷ []) []

-- a second that is taken
pub record Taken (t : Table) (k : ℕ) (s : Second) (a : After) : Type 0 where
  pub fresh : is_refusal (outcome_of a.answer) ≡ false
  pub grows : own_of k (table_of t.used a) ≡ grown (own_of k t) s
  pub arrives : map opening_of (in_use (table_of t.used a)) ≡ map opening_of (in_use t) ++ opening_for (own_of k t) k s

abbrev pub Refuses : After → Type 0
Refuses a = is_refusal (outcome_of a.answer) ≡ true

module _ (t : Table) (k : ℕ) (c : Counted t.rows t.used) (l : k ≤ 1) (s : Second) where
  joins_takes : follows (own_of k t) s ≡ true → Taken t k s (with_second t.rows t.used k s)
  joins_takes p =
      let some = follows_some k t.rows t.used s p in
      let q = newest_at_lem k t.rows t.used some in
      let x : Row = record { rack = k; run = longer (newest k t.rows t.used) s } in
      let same : opening_of x ≡ opening_of (row_at t.rows (newest_at k t.rows t.used)) = rw (eqb-true _ k q.1) in
      rw (with_join t.rows t.used k s p) record {
        fresh = refl;
        grows = rw p (joined_own k t.rows s t.used (omega (arith, c.few, c.full)) some);
        arrives = rw (p, append-nil)
            (map_take t.used (set t.rows (newest_at k t.rows t.used) x)
            ∙ ap (take t.used) (map-set_same opening_of t.rows (newest_at k t.rows t.used) x no_row same) ∙ sym (map_take t.used t.rows));
      }

  opens_takes : follows (own_of k t) s ≡ false → ltb (length (own_of k t)) 32 ≡ true → Taken t k s (with_second t.rows t.used k s)
  opens_takes p q =
      let inside : t.used < length t.rows = omega (arith, room t.rows t.used k c l (ltb-true (length (own_of k t)) 32 q), c.full) in
      rw (with_open t.rows t.used k s p q, add-one) record {
        fresh = refl;
        grows = rw p (opened_own k t.rows (single s) t.used inside);
        arrives = rw (p, take-suc-set t.rows t.used (record { rack = k; run = single s }) inside, map-append);
      }

  with_takes : (j f : Bool) → follows (own_of k t) s ≡ j → ltb (length (own_of k t)) 32 ≡ f → Refuses (with_second t.rows t.used k s) ⊎ Taken t k s (with_second t.rows t.used k s)
  with_takes true f p q = inr (joins_takes p)
  with_takes false true p q = inr (opens_takes p q)
  with_takes false false p q = inl (rw (with_full t.rows t.used k s p q) refl)

-- a call that is not refused
pub record Step (t : Table) (c : Call) : Type 0 where
  pub rack : c.rack ≤ 1
  pub at : Second
  pub tells : second_in c.given ≡ Some at
  pub takes : Taken t c.rack at (added_to t.rows t.used c.rack c.given)

abbrev pub Steps : Table → Call → Type 0
Steps t c = Refuses (added_to t.rows t.used c.rack c.given) ⊎ Step t c

module _ (t : Table) (c : Call) (g : Good t) where
  carried : c.rack ≤ 1 → (s : Second) → second_in c.given ≡ Some s → (a : After) → a ≡ added_to t.rows t.used c.rack c.given → Refuses a ⊎ Taken t c.rack s a → Steps t c
  carried l s e a is (inl h) = inl (subst Refuses is h)
  carried l s e a is (inr k) = inr record { rack = l; at = s; tells = e; takes = subst (Taken t c.rack s) is k }

  step_on : leb c.rack 1 ≡ true → (m : Option Second) → second_in c.given ≡ m → Steps t c
  step_on h (Some s) e =
      let is = good_table t g in
      let l = leb-true c.rack 1 h in
      carried l s e _ (sym (added_told t.rows t.used c.rack c.given h is _ e)) (with_takes t c.rack (counted t.rows t.used is) l s _ _ refl refl)
  step_on h None e = inl (rw (added_told t.rows t.used c.rack c.given h (good_table t g) _ e) refl)

  step_by : (b : Bool) → leb c.rack 1 ≡ b → Steps t c
  step_by true h = step_on h _ refl
  step_by false h = inl (rw (added_none t.rows t.used c.rack c.given h) refl)

  pub step : Steps t c
  step = step_by _ refl
