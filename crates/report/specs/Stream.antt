-- "then the stream", which the program reads in pieces: each is reported together with the bytes carried from those before it.
use Rattle.report.specs.Piece.{reported}
use Rattle.std.specs.Prelude.{List, [], ◌∷◌, ◌++◌, ◌≡◌, ℕ, ◌+◌, length, take}
use Rattle.stream.specs.Answer.{records_of}
use Rattle.listener.specs.Listening.{hears}
use Rattle.report.specs.Piece.{ReportedPiece}
use Rattle.report.specs.Printed.{printed}

-- the pieces read so far, one call of `report_piece` for each; the bytes carried and the buffer that the last one left; all that was
-- printed, and the telegrams counted
pub data Reported (form : ℕ) : List (List ℕ) → ℕ → List ℕ → List ℕ → ℕ → Type 0 where
  -- at the start nothing is carried
  none_yet : {buffer : List ℕ} → Reported form [] 0 buffer [] 0
  -- a read leaves the bytes carried and puts the piece p behind them; then the piece is reported, and the bytes that tell it are printed
  one_more :
      {ps : List (List ℕ)} {carried : ℕ} {before text : List ℕ} {count : ℕ} → Reported form ps carried before text count
      → (p : List ℕ) {buffer out buffer' out' : List ℕ} {telegrams bytes k : ℕ} → take (carried + length p) buffer ≡ take carried before ++ p
      → ReportedPiece form carried (length p) (reported telegrams bytes k) buffer out buffer' out'
      → Reported form (ps ++ (p ∷ [])) k buffer' (text ++ take bytes out') (count + telegrams)

-- "It prints each record as a block and an empty line", and "the number of records": those that a listener hands out over the bytes s
pub record AsHeard (form : ℕ) (s text : List ℕ) (count : ℕ) : Type 0 where
  pub all_printed : text ≡ printed (records_of (hears form s))
  pub all_counted : count ≡ length (records_of (hears form s))
