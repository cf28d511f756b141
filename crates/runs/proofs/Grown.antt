-- The maximal runs of a list with one more second at its end: the newest run has it where it is the next second, and else there is a run more.
use Rattle.cond.proofs.Kit.{[], ◌+◌, ◌++◌, ◌∷◌, ◌≡◌, add-one, ap, Bool, false, List, map, refl, true}
use Rattle.cond.specs.Pick.{pick}
use Rattle.runs.specs.declared.Run.{Run}
use Rattle.runs.specs.declared.second.Second.{Second}
use Rattle.runs.specs.Afresh.{Piece, cut_from, in_front, last_from, row_of, runs_of}
use Rattle.runs.specs.Rows.{longer, single}
use Rattle.runs.specs.Seconds.{is_next}

-- a second is the next of the newest run, and the newest run with it
abbrev pub follows : List Run → Second → Bool
follows [] s = false
follows (n ∷ []) s = is_next n.last s
follows (n ∷ m ∷ ns) s = follows (m ∷ ns) s

abbrev pub extended : List Run → Second → List Run
extended [] s = []
extended (n ∷ []) s = longer n s ∷ []
extended (n ∷ m ∷ ns) s = n ∷ extended (m ∷ ns) s

abbrev pub grown : List Run → Second → List Run
grown ns t = pick (follows ns t) (extended ns t) (ns ++ (single t ∷ []))

-- the newest run of a list that ends in it
pub follows_snoc : (p : List Run) (x : Run) (s : Second) → follows (p ++ (x ∷ [])) s ≡ is_next x.last s
follows_snoc [] x s = refl
follows_snoc (n ∷ []) x s = refl
follows_snoc (n ∷ m ∷ p) x s = follows_snoc (m ∷ p) x s

pub extended_snoc : (p : List Run) (x : Run) (s : Second) → extended (p ++ (x ∷ [])) s ≡ p ++ (longer x s ∷ [])
extended_snoc [] x s = refl
extended_snoc (n ∷ []) x s = refl
extended_snoc (n ∷ m ∷ p) x s = ap (λ (ns : List Run). n ∷ ns) (extended_snoc (m ∷ p) x s)

-- a second in front of the first run
abbrev earlier : Second → Run → Run
earlier s n = record { first = s; last = n.last; count = n.count + 1 }

abbrev before : Second → List Run → List Run
before s [] = []
before s (n ∷ ns) = earlier s n ∷ ns

row_before : (s : Second) (ps : List Piece) → map row_of (in_front s ps) ≡ before s (map row_of ps)
row_before s [] = refl
row_before s (p ∷ ps) = rw add-one

runs_cons : (b : Bool) (s : Second) (ps : List Piece)
    → map row_of (pick b (in_front s ps) (record { first = s; rest = [] } ∷ ps)) ≡ pick b (before s (map row_of ps)) (single s ∷ map row_of ps)
runs_cons true s ps = row_before s ps
runs_cons false s ps = refl

-- what stands in front of the newest run stays
before_one : (s t : Second) (n : Run) (b : Bool)
    → before s (pick b (longer n t ∷ []) (n ∷ single t ∷ [])) ≡ pick b (longer (earlier s n) t ∷ []) (earlier s n ∷ single t ∷ [])
before_one s t n true = refl
before_one s t n false = refl

before_more : (s : Second) (n : Run) (ks ms : List Run) (b : Bool) → before s (pick b (n ∷ ks) (n ∷ ms)) ≡ pick b (earlier s n ∷ ks) (earlier s n ∷ ms)
before_more s n ks ms true = refl
before_more s n ks ms false = refl

cons_pick : (x : Run) (ks ms : List Run) (b : Bool) → x ∷ pick b ks ms ≡ pick b (x ∷ ks) (x ∷ ms)
cons_pick x ks ms true = refl
cons_pick x ks ms false = refl

before_grown : (s t : Second) (n : Run) (ns : List Run) → before s (grown (n ∷ ns) t) ≡ grown (earlier s n ∷ ns) t
before_grown s t n [] = before_one s t n (is_next n.last t)
before_grown s t n (m ∷ ns) = before_more s n (extended (m ∷ ns) t) ((m ∷ ns) ++ (single t ∷ [])) (follows (m ∷ ns) t)

-- a list of runs that is not empty
record Some (ns : List Run) : Type 0 where
  pub head : Run
  pub rest : List Run
  pub is : ns ≡ head ∷ rest

some_by : (b : Bool) (s : Second) (ns : List Run) → Some ns → Some (pick b (before s ns) (single s ∷ ns))
some_by true s ns c = record { head = _; rest = _; is = ap (before s) c.is }
some_by false s ns c = record { head = single s; rest = ns; is = refl }

grown_by : (b : Bool) (s t : Second) (ns : List Run) → Some ns → pick b (before s (grown ns t)) (single s ∷ grown ns t) ≡ grown (pick b (before s ns) (single s ∷ ns)) t
grown_by true s t ns c = rw c.is (before_grown s t c.head c.rest)
grown_by false s t ns c = rw c.is (cons_pick (single s) _ _ (follows (c.head ∷ c.rest) t))

some_runs : (s : Second) (ss : List Second) → Some (map row_of (cut_from s ss))
some_runs s [] = record { head = single s; rest = []; is = refl }
some_runs s (t ∷ ts) = rw (runs_cons (is_next s t) s (cut_from t ts)) (some_by (is_next s t) s _ (some_runs t ts))

from_snoc : (s : Second) (ss : List Second) (t : Second) → map row_of (cut_from s (ss ++ (t ∷ []))) ≡ grown (map row_of (cut_from s ss)) t
from_snoc s [] t = runs_cons (is_next s t) s (cut_from t [])
from_snoc s (u ∷ us) t =
    rw (runs_cons (is_next s u) s (cut_from u (us ++ (t ∷ []))), runs_cons (is_next s u) s (cut_from u us), from_snoc u us t)
    (grown_by (is_next s u) s t (map row_of (cut_from u us)) (some_runs u us))

pub runs_snoc : (ss : List Second) (t : Second) → runs_of (ss ++ (t ∷ [])) ≡ grown (runs_of ss) t
runs_snoc [] t = refl
runs_snoc (s ∷ ss) t = from_snoc s ss t

-- the newest run of a list of seconds ends in the last of them
follows_behind : (b : Bool) (s t : Second) (ns : List Run) → Some ns → follows (pick b (before s ns) (single s ∷ ns)) t ≡ follows ns t
follows_behind true s t ns c = rw c.is (behind_first s t c.head c.rest)
  where
    behind_first : (s t : Second) (n : Run) (ns : List Run) → follows (earlier s n ∷ ns) t ≡ follows (n ∷ ns) t
    behind_first s t n [] = refl
    behind_first s t n (m ∷ ns) = refl
follows_behind false s t ns c = rw c.is

pub follows_last : (s : Second) (ss : List Second) (t : Second) → follows (map row_of (cut_from s ss)) t ≡ is_next (last_from s ss) t
follows_last s [] t = refl
follows_last s (u ∷ us) t =
    rw (runs_cons (is_next s u) s (cut_from u us), follows_behind (is_next s u) s t (map row_of (cut_from u us)) (some_runs u us)) (follows_last u us t)
