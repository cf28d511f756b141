-- One read more: its bytes stand behind those carried, so that its report goes on with the run.
use Rattle.report.specs.Piece.{reported}
use mathlib.Core.List.{flatten}
use Rattle.cond.proofs.Kit.{[], ◌++◌, ◌+◌, ◌-◌, ◌<◌, ◌∷◌, ◌≡◌, ◌≤◌, append-nil, arith, drop, drop_at, length, length-append, length-take-le, List, refl, take, take-add, take-append-le, take_at, true, ℕ}
use Rattle.std.proofs.Common.{Err, Ok, Result}
use Rattle.std.specs.Prelude.{OnErr}
use Rattle.std.specs.declared.option.Option.{Option}
use Rattle.std.specs.Io.KnownBytes.{Appends, Consumes}
use Rattle.std.proofs.KnownBytes.{Appends-nil, Appends-trans, Consumes-nil, Consumes-trans}
use Rattle.forms.specs.Forms.{is_serial}
use Rattle.forms.specs.Valid.{length_of}
use Rattle.serial.proofs.Lengths.{length_most}
use Rattle.report.specs.Piece.{ReportedPiece, piece_in}
use Rattle.report.specs.Printed.{printed, records_in}
use Rattle.report.specs.Stream.{none_yet, one_more}
use Rattle.report.proofs.Answered.{written_few, written_text}
use Rattle.report.proofs.Whole.{flatten_more, whole_stream}
use Rattle.heard.specs.Counted.{Counted}
use Rattle.heard.specs.Listened.{Listened, SomeTaken}

-- y stands behind the first `a` bytes of x, and begins with the n bytes that a read brought
pub brought : (a n : ℕ) (x y rest : List ℕ) → a ≤ length x → n ≤ length y → take (a + n) (take a x ++ (y ++ rest)) ≡ take a x ++ take n y
brought a n x y rest inside fits =
    let long = length-take-le a x inside in
    rw (take-add, take_at (take a x) (y ++ rest) a long, drop_at (take a x) (y ++ rest) a long, take-append-le n y rest fits)

-- the run so far: what it reported was taken from the input and written to the output
pub record Going (form carried : ℕ) (buffer : List ℕ) (bytes telegrams : ℕ) (left left' told told' : Option (List ℕ)) : Type 0 where
  pub counted : Counted form carried buffer bytes telegrams
  pub taken : Consumes left left' (flatten counted.pieces)
  pub written : Appends told told' counted.text

pub going_none : {form : ℕ} {buffer : List ℕ} (left told : Option (List ℕ)) → Going form 0 buffer 0 0 left left told told
unfolding flatten
going_none left told =
    record { counted = record { pieces = []; text = []; run = none_yet; size = refl }; taken = Consumes-nil left; written = Appends-nil told }

-- a read into the buffer behind the bytes carried: y is that part afterwards, and begins with the bytes that it brought
module _ {form carried : ℕ} (before y : List ℕ) {got telegrams size k : ℕ} {out buffer' out' : List ℕ} (small : carried < length_of form)
    (long : 65536 ≡ length before) (same : length y ≡ length (take (65536 - carried) (drop carried before)))
    (fits : got ≤ length (take (65536 - carried) (drop carried before)))
    (h : ReportedPiece form carried got (reported telegrams size k)
    (take carried before ++ (y ++ drop (65536 - carried) (drop carried before))) out buffer' out') where
  abbrev rest : List ℕ
  rest = drop (65536 - carried) (drop carried before)

  head_long : length (take carried before) ≡ carried
  head_long = length-take-le carried before (omega (arith, length_most form))

  piece_long : length (take got y) ≡ got
  piece_long = length-take-le got y (omega arith)

  behind : take (carried + got) (take carried before ++ (y ++ rest)) ≡ take carried before ++ take got y
  behind = brought carried got before y rest (omega (arith, length_most form)) (omega arith)

  pub few_telegrams : telegrams ≤ got
  few_telegrams = written_few h refl carried got small (rw behind (rw (length-append, piece_long, head_long)))

  pub counted_more : {bytes count : ℕ} → Counted form carried before bytes count → Counted form k buffer' (bytes + got) (count + telegrams)
  counted_more i =
      let stands : take (carried + length (take got y)) (take carried before ++ (y ++ rest)) ≡ take carried before ++ take got y = rw piece_long behind in
      let reported :
      ReportedPiece form carried (length (take got y)) (reported telegrams size k) (take carried before ++ (y ++ rest)) out buffer' out' =
      rw piece_long h in
      record {
        pieces = i.pieces ++ (take got y ∷ []);
        text = i.text ++ take size out';
        run = one_more i.run (take got y) stands reported;
        size = rw (flatten_more, length-append, piece_long, i.size);
      }

  module _ {bytes count : ℕ} {left left' told told' : Option (List ℕ)} (i : Going form carried before bytes count left left' told told') where
    pub going_more : {left'' told'' : Option (List ℕ)} → Consumes left' left'' (take got y)
        → Appends told' told'' (printed (records_in form (piece_in carried got (take carried before ++ (y ++ rest)))))
        → Going form k buffer' (bytes + got) (count + telegrams) left left'' told told''
    unfolding counted_more
    going_more {told'' = told''} taken written =
        let w : Appends told' told'' (take size out') = rw (written_text h refl) written in
        record {
          counted = counted_more i.counted;
          taken = rw flatten_more (Consumes-trans _ _ _ _ _ i.taken taken);
          written = Appends-trans _ _ _ _ _ i.written w;
        }

-- a read that brings nothing
pub going_still : {form carried : ℕ} {buffer : List ℕ} (y : List ℕ) {bytes telegrams got : ℕ} {left left' left'' told told' : Option (List ℕ)}
    → Going form carried buffer bytes telegrams left left' told told' → Consumes left' left'' (take got y) → got ≡ 0
    → Going form carried buffer bytes telegrams left left'' told told'
going_still y {left' = left'} {left'' = left''} i taken none =
    let nothing : Consumes left' left'' [] = rw none at taken in
    record {
      counted = i.counted;
      taken = rw append-nil at (Consumes-trans _ _ _ _ _ i.taken nothing);
      written = i.written;
    }

-- what the contract of `listen` says of it
pub listened : {form carried : ℕ} {buffer : List ℕ} {bytes telegrams : ℕ} {left left' told told' : Option (List ℕ)} → is_serial form ≡ true
    → Going form carried buffer bytes telegrams left left' told told' → Listened form left left' told told' bytes telegrams
listened known i =
    record {
      stream = flatten i.counted.pieces;
      text = i.counted.text;
      taken = i.taken;
      written = i.written;
      heard = whole_stream known i.counted.run;
      size = i.counted.size;
    }

pub some_taken : {left left' : Option (List ℕ)} (s : List ℕ) → Consumes left left' s → SomeTaken left left'
some_taken s taken = record { stream = s; taken = taken }

-- what was taken first, and what was taken then
pub taken_more : {left left' left'' : Option (List ℕ)} (s : List ℕ) → Consumes left left' s → SomeTaken left' left'' → SomeTaken left left''
taken_more s first then = record { stream = s ++ then.stream; taken = Consumes-trans _ _ _ _ _ first then.taken }

-- a fact that holds whatever the answer is
pub on_err : {T E P : Type 0} (r : Result T E) → P → OnErr r P
on_err (Ok x) p = tt
on_err (Err e) p = p
