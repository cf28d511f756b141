-- What is cut behind each second that is not followed by its next are the maximal runs of the list, and no other pieces are.
use Rattle.cond.proofs.Kit.{[], ◌&&◌, ◌++◌, ◌∙◌, ◌∷◌, ◌≡◌, ap, Bool, false, List, map, not, not-true, refl, sym, true}
use mathlib.Core.List.{cons≢nil, flatten, head-eq_of_cons-eq, nil≢cons, tail-eq_of_cons-eq}
use Rattle.cond.specs.Pick.{pick}
use Rattle.cond.proofs.Tests.{both, both_hold}
use Rattle.runs.specs.declared.second.Second.{Second}
use Rattle.runs.specs.Afresh.{MaximalRuns, Piece, all_follow, apart, cut, cut_from, follow, in_front, seconds_in}
use Rattle.runs.specs.Seconds.{is_next}

abbrev piece : Second → List Second → Piece
piece s ss = record { first = s; rest = ss }

-- whether a piece could be longer does not hang on its first second, where it has more
same_apart : (s t : Second) (ts : List Second) (ps : List Piece) → apart (piece s (t ∷ ts) ∷ ps) ≡ apart (piece t ts ∷ ps)
same_apart s t ts [] = refl
same_apart s t ts (p ∷ ps) = refl

-- maximal runs of which the first begins with s
record Front (s : Second) (ss : List Second) (ps : List Piece) : Type 0 where
  pub rest : List Second
  pub pieces : List Piece
  pub is : ps ≡ piece s rest ∷ pieces
  pub runs : MaximalRuns (s ∷ ss) (piece s rest ∷ pieces)

front_by : (b : Bool) (s t : Second) (ts : List Second) (ps : List Piece) → is_next s t ≡ b → Front t ts ps → Front s (t ∷ ts) (pick b (in_front s ps) (piece s [] ∷ ps))
unfolding flatten
front_by true s t ts ps e c =
    let k = both (follow t c.rest) (all_follow c.pieces) c.runs.runs in
    record {
      rest = t ∷ c.rest;
      pieces = c.pieces;
      is = ap (in_front s) c.is;
      runs = record {
        whole = ap (λ (us : List Second). s ∷ us) c.runs.whole;
        runs = both_hold _ _ (both_hold _ _ e k.0) k.1;
        maximal = same_apart s t c.rest c.pieces ∙ c.runs.maximal;
      };
    }
front_by false s t ts ps e c = record {
  rest = [];
  pieces = piece t c.rest ∷ c.pieces;
  is = ap (λ (qs : List Piece). piece s [] ∷ qs) c.is;
  runs = record {
    whole = ap (λ (us : List Second). s ∷ us) c.runs.whole;
    runs = c.runs.runs;
    maximal = both_hold (not (is_next s t)) _ (ap not e) c.runs.maximal;
  };
}

front_of : (s : Second) (ss : List Second) → Front s ss (cut_from s ss)
unfolding flatten
front_of s [] = record { rest = []; pieces = []; is = refl; runs = record { whole = refl; runs = refl; maximal = refl } }
front_of s (t ∷ ts) = front_by (is_next s t) s t ts (cut_from t ts) refl (front_of t ts)

pub maximal : (ss : List Second) → MaximalRuns ss (cut ss)
unfolding flatten
maximal [] = record { whole = refl; runs = refl; maximal = refl }
maximal (s ∷ ss) = let c = front_of s ss in rw c.is c.runs

-- pieces of which the first begins with s are these runs, if each follows and none could be longer
unique : (s : Second) (ss us : List Second) (ps : List Piece) → us ++ flatten (map seconds_in ps) ≡ ss → (follow s us && all_follow ps) ≡ true → apart (piece s us ∷ ps) ≡ true
    → piece s us ∷ ps ≡ cut_from s ss
unfolding flatten
unique s [] [] [] e f a = refl
unique s [] [] (q ∷ ps) e f a = absurd (cons≢nil e)
unique s [] (u ∷ us) ps e f a = absurd (cons≢nil e)
unique s (t ∷ ts) [] [] e f a = absurd (nil≢cons e)
unique s (t ∷ ts) [] (q ∷ ps) e f a =
    let k = both (not (is_next s q.first)) (apart (q ∷ ps)) a in
    rw (← head-eq_of_cons-eq e, not-true (is_next s q.first) k.0, ← unique q.first ts q.rest ps (tail-eq_of_cons-eq e) f k.1)
unique s (t ∷ ts) (u ∷ us) ps e f a =
    let k = both (is_next s u && follow u us) (all_follow ps) f in
    let n = both (is_next s u) (follow u us) k.0 in
    rw (← head-eq_of_cons-eq e, n.0, ← unique u ts us ps (tail-eq_of_cons-eq e) (both_hold _ _ n.1 k.1) (sym (same_apart s u us ps) ∙ a))

pub only : (ss : List Second) (ps : List Piece) → MaximalRuns ss ps → ps ≡ cut ss
unfolding flatten
only [] [] m = refl
only [] (p ∷ ps) m = absurd (cons≢nil m.whole)
only (s ∷ ss) [] m = absurd (nil≢cons m.whole)
only (s ∷ ss) (p ∷ ps) m = rw (← head-eq_of_cons-eq m.whole) (unique p.first ss p.rest ps (tail-eq_of_cons-eq m.whole) m.runs m.maximal)
