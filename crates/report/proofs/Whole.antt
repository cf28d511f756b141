-- What is printed piece by piece is what a listener hands out over the whole stream, wherever the pieces end.
use Rattle.report.specs.Piece.{reported}
use mathlib.Core.List.{flatten}
use Rattle.cond.proofs.Kit.{[], ◌++◌, ◌+◌, ◌-◌, ◌∙◌, ◌∷◌, ◌≡◌, append_assoc, append-nil, arith, length, length-append, List, refl, sym, take, true, ℕ}
use Rattle.record.specs.declared.Record.{Record}
use Rattle.forms.specs.Forms.{is_serial}
use Rattle.forms.specs.Valid.{length_of, valid_of}
use Rattle.serial.proofs.Lengths.{serial_long}
use Rattle.serial.proofs.Strings.{serial_strings}
use Rattle.stream.specs.Answer.{records_of}
use Rattle.stream.specs.Search.{search_from, search_times}
use Rattle.stream.specs.Window.{last_of}
use Rattle.stream.proofs.Pieces.{boundary}
use Rattle.stream.proofs.Window.{last_last, none_last}
use Rattle.listener.specs.Listening.{hears}
use Rattle.listener.proofs.Demand3.{demand_3}
use Rattle.report.specs.Carry.{carried_of}
use Rattle.report.specs.Piece.{ReportedPiece, piece_in}
use Rattle.report.specs.Printed.{paragraph, printed, records_in}
use Rattle.report.specs.Stream.{AsHeard, Reported, none_yet, one_more}
use Rattle.report.proofs.Answered.{carried_bytes, written_count, written_serial, written_text}

printed_append : (rs qs : List Record) → printed (rs ++ qs) ≡ printed rs ++ printed qs
unfolding printed
printed_append [] qs = refl
printed_append (r ∷ rs) qs = rw (printed_append rs qs, append_assoc (paragraph r) (printed rs) (printed qs))

pub flatten_more : (ps : List (List ℕ)) (p : List ℕ) → flatten (ps ++ (p ∷ [])) ≡ flatten ps ++ p
unfolding flatten
flatten_more [] p = append-nil p
flatten_more (q ∷ ps) p = rw (flatten_more ps p, append_assoc q (flatten ps) p)

-- what holds of the stream read so far
record Held (form : ℕ) (s : List ℕ) (carried : ℕ) (buffer text : List ℕ) (count : ℕ) : Type 0 where
  kept : take carried buffer ≡ carried_of form s
  told : text ≡ printed (records_in form s)
  counted : count ≡ length (records_in form s)

module _ (form : ℕ) where
  none_held : (buffer : List ℕ) → Held form [] 0 buffer [] 0
  unfolding carried_of search_from search_times printed
  none_held buffer = record { kept = sym (none_last (length_of form - 1)); told = refl; counted = refl }

  module _ {s : List ℕ} {carried : ℕ} {before text : List ℕ} {count : ℕ} (i : Held form s carried before text count)
      (p : List ℕ) {buffer out buffer' out' : List ℕ} {telegrams bytes k : ℕ} (brought : take (carried + length p) buffer ≡ take carried before ++ p)
      (h : ReportedPiece form carried (length p) (reported telegrams bytes k) buffer out buffer' out') where
    known : is_serial form ≡ true
    known = written_serial h refl

    piece_is : piece_in carried (length p) buffer ≡ last_of (length_of form - 1) s ++ p
    unfolding carried_of
    piece_is = brought ∙ rw i.kept

    -- the records of the stream with the piece
    records_more : records_in form (s ++ p) ≡ records_in form s ++ records_in form (piece_in carried (length p) buffer)
    records_more = boundary (length_of form) (valid_of form) (serial_strings form (serial_long form known)) s p ∙ rw piece_is

    one_held : Held form (s ++ p) k buffer' (text ++ take bytes out') (count + telegrams)
    unfolding carried_of
    one_held =
        record {
          kept = carried_bytes h refl ∙ rw piece_is (last_last (length_of form - 1) (length_of form - 1) s p (omega arith));
          told = rw (i.told, written_text h refl, records_more, printed_append);
          counted = rw (i.counted, written_count h refl, records_more, length-append);
        }

  held : {ps : List (List ℕ)} {carried : ℕ} {buffer text : List ℕ} {count : ℕ} → Reported form ps carried buffer text count
      → Held form (flatten ps) carried buffer text count
  unfolding flatten
  held (none_yet {buffer}) = none_held buffer
  held (one_more {ps = ps} before p brought h) = rw (flatten_more ps p) (one_held (held before) p brought h)

-- the records of a slice are those that a listener hands out over it
pub records_heard : (form : ℕ) → is_serial form ≡ true → (s : List ℕ) → records_in form s ≡ records_of (hears form s)
records_heard form known s = sym ((demand_3.heard form known).same_as_search s)

-- one slice: what a single call prints
pub slice_heard : {form carried got : ℕ} {buffer out buffer' out' : List ℕ} {telegrams bytes k : ℕ}
    → ReportedPiece form carried got (reported telegrams bytes k) buffer out buffer' out'
    → AsHeard form (piece_in carried got buffer) (take bytes out') telegrams
slice_heard {form} {carried} {got} {buffer} h =
    let same = records_heard form (written_serial h refl) (piece_in carried got buffer) in
    record { all_printed = written_text h refl ∙ rw same; all_counted = written_count h refl ∙ rw same }

-- the whole stream: nothing is lost at the boundaries, and nothing is printed or counted twice
pub whole_stream : {form : ℕ} {ps : List (List ℕ)} {carried : ℕ} {buffer text : List ℕ} {count : ℕ} → is_serial form ≡ true
    → Reported form ps carried buffer text count → AsHeard form (flatten ps) text count
whole_stream {form} {ps} known run =
    let i = held form run in
    let same = records_heard form known (flatten ps) in
    record { all_printed = i.told ∙ rw same; all_counted = i.counted ∙ rw same }
