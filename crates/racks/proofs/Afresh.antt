-- The rows worked out afresh: call by call the rows of each rack stay the runs of the seconds that it told, and the openings those of the calls.
use Rattle.cond.proofs.Kit.{[], ◌++◌, ◌∙◌, ◌∷◌, ◌≡◌, ◌≤◌, ap, ap₂, append_assoc, append-nil, Bool, eq-eqb, eqb, eqb-false, eqb-true, false, inl, inr, length, List, map, not, refl, subst, sym, true, ℕ}
use Rattle.std.specs.Prelude.{Some}
use Rattle.cond.specs.Pick.{pick}
use Rattle.record.specs.declared.Record.{Record}
use Rattle.runs.specs.declared.Run.{Run}
use Rattle.runs.specs.declared.second.Second.{Second}
use Rattle.runs.specs.Afresh.{runs_of}
use Rattle.runs.specs.Heard.{second_in}
use Rattle.runs.proofs.Grown.{follows, follows_last, grown, runs_snoc}
use Rattle.racks.specs.declared.Row.{Row}
use Rattle.racks.specs.Calls.{Call, Opening, Table, after, after_all, empty, in_use, listed, not_refused, opening_of, opening_on, openings, openings_from, opens_behind, own_of, records_of, seconds_of}
use Rattle.racks.proofs.Answers.{refusals}
use Rattle.racks.proofs.Tables.{Good, called, good_empty}
use Rattle.racks.proofs.Taken.{Step, Steps, opening_for, step}

-- the seconds that a rack told, with one call more
records_by : (b : Bool) (r : Record) (rs qs : List Record) → pick b (r ∷ (rs ++ qs)) (rs ++ qs) ≡ pick b (r ∷ rs) rs ++ qs
records_by true r rs qs = refl
records_by false r rs qs = refl

records_snoc : (k : ℕ) (cs : List Call) (c : Call) → records_of k (cs ++ (c ∷ [])) ≡ records_of k cs ++ records_of k (c ∷ [])
records_snoc k [] c = refl
records_snoc k (d ∷ cs) c = rw (records_snoc k cs c) (records_by (eqb d.rack k) d.given (records_of k cs) (records_of k (c ∷ [])))

seconds_snoc : (rs : List Record) (r : Record) → seconds_of (rs ++ (r ∷ [])) ≡ seconds_of rs ++ listed (second_in r)
seconds_snoc [] r = rw append-nil
seconds_snoc (q ∷ rs) r = rw (seconds_snoc rs r, append_assoc)

abbrev seconds_by : ℕ → List Call → List Second
seconds_by k cs = seconds_of (records_of k cs)

told_own : (k : ℕ) (cs : List Call) (c : Call) (s : Second) → eqb c.rack k ≡ true → second_in c.given ≡ Some s → seconds_by k (cs ++ (c ∷ [])) ≡ seconds_by k cs ++ (s ∷ [])
told_own k cs c s h e = rw (records_snoc k cs c, h, seconds_snoc (records_of k cs) c.given, e)

told_other : (k : ℕ) (cs : List Call) (c : Call) → eqb c.rack k ≡ false → seconds_by k (cs ++ (c ∷ [])) ≡ seconds_by k cs
told_other k cs c h = rw (records_snoc k cs c, h, append-nil)

-- a table whose rows are the runs of the seconds that each rack told in these calls
record Holds (t : Table) (cs : List Call) : Type 0 where
  pub good : Good t
  pub runs : (k : ℕ) → k ≤ 1 → own_of k t ≡ runs_of (seconds_by k cs)

grown_runs : (t : Table) (cs : List Call) (c : Call) → Holds t cs → Step t c → own_of c.rack (after t c) ≡ runs_of (seconds_by c.rack (cs ++ (c ∷ [])))
grown_runs t cs c h k =
    k.takes.grows ∙ ap (λ (ns : List Run). grown ns k.at) (h.runs c.rack k.rack) ∙ sym (runs_snoc (seconds_by c.rack cs) k.at)
    ∙ ap runs_of (sym (told_own c.rack cs c k.at (eq-eqb c.rack c.rack refl) k.tells))

runs_by : (t : Table) (cs : List Call) (c : Call) → Holds t cs → Step t c → (j : ℕ) → j ≤ 1 → (b : Bool) → eqb c.rack j ≡ b → own_of j (after t c) ≡ runs_of (seconds_by j (cs ++ (c ∷ [])))
runs_by t cs c h k j l true e = subst (λ (i : ℕ). own_of i (after t c) ≡ runs_of (seconds_by i (cs ++ (c ∷ [])))) (eqb-true c.rack j e) (grown_runs t cs c h k)
runs_by t cs c h k j l false e = (called t c h.good).other_is j (eqb-false c.rack j e) ∙ h.runs j l ∙ ap runs_of (sym (told_other j cs c e))

opens_is : (ss : List Second) (s : Second) → opens_behind ss s ≡ not (follows (runs_of ss) s)
opens_is [] s = refl
opens_is (a ∷ ss) s = ap not (sym (follows_last a ss s))

opening_is : (t : Table) (cs : List Call) (c : Call) → Holds t cs → (k : Step t c) → opening_on cs c.rack (second_in c.given) ≡ opening_for (own_of c.rack t) c.rack k.at
opening_is t cs c h k = rw (k.tells, opens_is (seconds_by c.rack cs) k.at, ← h.runs c.rack k.rack)

-- calls one after the other
record Whole (t : Table) (before cs : List Call) : Type 0 where
  pub holds : Holds (after_all t cs) (before ++ not_refused t cs)
  pub arrives : map opening_of (in_use (after_all t cs)) ≡ map opening_of (in_use t) ++ openings_from before (not_refused t cs)

whole_by : (t : Table) (before : List Call) (c : Call) (cs : List Call) → Holds t before → Steps t c → ((ds : List Call) → Holds (after t c) ds → Whole (after t c) ds cs) → Whole t before (c ∷ cs)
whole_by t before c cs h (inl r) ih =
    let q = refusals t.rows t.used c.rack c.given r in
    let same : after t c ≡ t = ap₂ (λ (ys : List Row) (u : ℕ). record { rows = ys; used = u }) q.0 q.1 in
    let w = ih before (subst (λ (u : Table). Holds u before) (sym same) h) in
    record {
      holds = rw r w.holds;
      arrives = rw r (w.arrives ∙ ap (λ (u : Table). map opening_of (in_use u) ++ openings_from before (not_refused (after t c) cs)) same);
    }
whole_by t before c cs h (inr k) ih =
    let rest = not_refused (after t c) cs in
    let w = ih (before ++ (c ∷ [])) (record { good = (called t c h.good).good; runs = λ j l. runs_by t before c h k j l _ refl }) in
    record {
      holds = rw (k.takes.fresh, ← append_assoc before (c ∷ []) rest) w.holds;
      arrives = rw (k.takes.fresh, opening_is t before c h k)
          (w.arrives ∙ ap (λ (os : List Opening). os ++ openings_from (before ++ (c ∷ [])) rest) k.takes.arrives
          ∙ append_assoc (map opening_of (in_use t)) (opening_for (own_of c.rack t) c.rack k.at) (openings_from (before ++ (c ∷ [])) rest));
    }

whole : (t : Table) (before cs : List Call) → Holds t before → Whole t before cs
whole t before [] h = record { holds = rw append-nil h; arrives = rw append-nil }
whole t before (c ∷ cs) h = whole_by t before c cs h (step t c h.good) (λ ds k. whole (after t c) ds cs k)

whole_empty : (rows : List Row) → length rows ≡ 64 → (cs : List Call) → Whole (empty rows) [] cs
whole_empty rows f cs = whole (empty rows) [] cs (record { good = good_empty rows f; runs = λ k l. refl })

pub afresh : (k : ℕ) → k ≤ 1 → (rows : List Row) → length rows ≡ 64 → (cs : List Call) → own_of k (after_all (empty rows) cs) ≡ runs_of (seconds_of (records_of k (not_refused (empty rows) cs)))
afresh k l rows f cs = (whole_empty rows f cs).holds.runs k l

pub arrival : (rows : List Row) → length rows ≡ 64 → (cs : List Call) → map opening_of (in_use (after_all (empty rows) cs)) ≡ openings (not_refused (empty rows) cs)
arrival rows f cs = (whole_empty rows f cs).arrives
