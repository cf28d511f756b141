-- A rack alone, by the list of its runs: what its records do to it. The table is not spoken of.
use Rattle.cond.proofs.Kit.{[], ◌++◌, ◌∷◌, ◌≡◌, ◌≤◌, ap, arith, Bool, false, length, length-append, List, ltb, ltb-true, refl, suc, true}
use Rattle.std.specs.Prelude.{Err, None, Ok, Option, Result, Some}
use Rattle.cond.specs.Pick.{pick}
use Rattle.record.specs.declared.Record.{Record}
use Rattle.record.specs.declared.refusal.Refusal.{Refusal}
use Rattle.record.specs.declared.refusal.Refusal.TheVariants as refusal
use Rattle.runs.specs.declared.Run.{Run}
use Rattle.runs.specs.declared.second.Second.{Second}
use Rattle.runs.specs.Heard.{second_in}
use Rattle.runs.specs.Rows.{single}
use Rattle.runs.specs.Seconds.{is_second}
use Rattle.runs.proofs.Grown.{extended, follows}
use Rattle.runs.proofs.Possible.{NewestPossible, newest_extended, newest_snoc, single_possible, told_second}
use Rattle.racks.specs.declared.Outcome.{Outcome}
use Rattle.racks.specs.declared.Outcome.TheVariants as outcome

-- what a rack is told, and its runs afterwards
pub record Alone : Type 0 where
  pub told : Result Outcome Refusal
  pub runs : List Run

abbrev with : Result Outcome Refusal → List Run → Alone
with x ns = record { told = x; runs = ns }

unfoldable pub alone_with : List Run → Second → Alone
alone_with ns s = pick (follows ns s) (with (Ok outcome.Joined) (extended ns s)) (pick (ltb (length ns) 32) (with (Ok outcome.Opened) (ns ++ (single s ∷ []))) (with (Err refusal.NoRow) ns))

abbrev pub alone_on : List Run → Option Second → Alone
alone_on ns (Some s) = alone_with ns s
alone_on ns None = with (Err refusal.NoSecond) ns

abbrev pub alone_by : List Run → Record → Alone
alone_by ns r = alone_on ns (second_in r)

module _ (ns : List Run) (s : Second) where
  pub alone_join : follows ns s ≡ true → alone_with ns s ≡ with (Ok outcome.Joined) (extended ns s)
  unfolding alone_with
  alone_join h = rw h

  pub alone_open : follows ns s ≡ false → ltb (length ns) 32 ≡ true → alone_with ns s ≡ with (Ok outcome.Opened) (ns ++ (single s ∷ []))
  unfolding alone_with
  alone_open h l = rw (h, l)

  pub alone_full : follows ns s ≡ false → ltb (length ns) 32 ≡ false → alone_with ns s ≡ with (Err refusal.NoRow) ns
  unfolding alone_with
  alone_full h l = rw (h, l)

-- no more than 32 runs, of which the newest grew from one second
pub record Rack (ns : List Run) : Type 0 where
  pub few : length ns ≤ 32
  pub newest : NewestPossible ns

length_extended : (ns : List Run) (s : Second) → length (extended ns s) ≡ length ns
length_extended [] s = refl
length_extended (n ∷ []) s = refl
length_extended (n ∷ m ∷ ns) s = ap suc (length_extended (m ∷ ns) s)

rack_with : (ns : List Run) (s : Second) → is_second s ≡ true → Rack ns → (j l : Bool) → follows ns s ≡ j → ltb (length ns) 32 ≡ l → Rack (alone_with ns s).runs
rack_with ns s h c true l p q = rw (alone_join ns s p) record { few = rw (length_extended ns s) c.few; newest = newest_extended ns s c.newest p }
rack_with ns s h c false true p q =
    rw (alone_open ns s p q) record { few = simp length-append (omega (arith, ltb-true (length ns) 32 q)); newest = newest_snoc ns (single s) (single_possible s h) }
rack_with ns s h c false false p q = rw (alone_full ns s p q) c

rack_on : (ns : List Run) (r : Record) → Rack ns → (t : Option Second) → second_in r ≡ t → Rack (alone_on ns t).runs
rack_on ns r c (Some s) e = rack_with ns s (told_second r s e) c _ _ refl refl
rack_on ns r c None e = c

pub rack_by : (ns : List Run) (r : Record) → Rack ns → Rack (alone_by ns r).runs
rack_by ns r c = rack_on ns r c _ refl

-- its records one after the other
abbrev pub alone_told : List Run → List Record → List (Result Outcome Refusal)
alone_told ns [] = []
alone_told ns (r ∷ rs) = (alone_by ns r).told ∷ alone_told (alone_by ns r).runs rs

abbrev pub alone_runs : List Run → List Record → List Run
alone_runs ns [] = ns
alone_runs ns (r ∷ rs) = alone_runs (alone_by ns r).runs rs
