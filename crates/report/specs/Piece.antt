-- A piece of the stream behind the bytes carried from the one before: "It prints each record as a block and an empty line".
use Rattle.record.specs.declared.refusal.Refusal.{Refusal}
use Rattle.record.specs.Answers.{number_in}
use Rattle.std.specs.Prelude.{true, false, List, ◌++◌, ◌≡◌, ℕ, ◌+◌, ◌/◌, leb, length, drop, take, Result, Ok, Err}
use Rattle.forms.specs.Forms.{is_serial}
use Rattle.report.specs.Carry.{carried_of}
use Rattle.report.specs.Printed.{printed, records_answer, records_in}
use Rattle.report.specs.declared.piece.PieceReport.{PieceReport}
use Rattle.report.specs.declared.records.Report.{Report}

-- the bytes carried and those just read; the buffer's length caps them
abbrev pub piece_in : ℕ → ℕ → List ℕ → List ℕ
piece_in carried got buffer = take (carried + got) buffer

-- so many telegrams, told by so many bytes, and so many bytes carried to the next piece
abbrev pub reported : ℕ → ℕ → ℕ → Result PieceReport Refusal
reported telegrams bytes k = Ok (record { telegrams = telegrams; bytes = bytes; carried = k })

-- the answer for the records, and how many bytes are carried on
abbrev pub and_carried : Result Report Refusal → ℕ → Result PieceReport Refusal
and_carried (Ok report) k = reported report.telegrams report.bytes k
and_carried (Err x) k = Err x

-- refusal 1, then 10, as for the records of the piece
unfoldable pub piece_answer : ℕ → List ℕ → ℕ → Result PieceReport Refusal
piece_answer form s room = and_carried (records_answer form s room) (length (carried_of form s))

-- the last n-1 bytes stand at the head of the buffer, and "the bytes behind stay"; a refusal "changes no byte"
abbrev pub left_buffer : Result PieceReport Refusal → List ℕ → List ℕ → List ℕ
left_buffer (Ok report) carried buffer = carried ++ drop report.carried buffer
left_buffer (Err x) carried buffer = buffer

-- the same of the output
abbrev pub left_out : Result PieceReport Refusal → List ℕ → List ℕ → List ℕ
left_out (Ok report) text out = text ++ drop report.bytes out
left_out (Err x) text out = out

-- what the contract of `report_piece` says: its answer, and every byte of the buffer and of the output afterwards
pub record ReportedPiece (form carried got : ℕ) (t : Result PieceReport Refusal) (buffer out buffer' out' : List ℕ) : Type 0 where
  pub answer : t ≡ piece_answer form (piece_in carried got buffer) (length out)
  pub left : buffer' ≡ left_buffer t (carried_of form (piece_in carried got buffer)) buffer
  pub written : out' ≡ left_out t (printed (records_in form (piece_in carried got buffer))) out

-- the values of an answer, 0 for a refusal

abbrev pub piece_telegrams : Result PieceReport Refusal → ℕ
piece_telegrams (Ok report) = report.telegrams
piece_telegrams (Err x) = 0

abbrev pub piece_bytes : Result PieceReport Refusal → ℕ
piece_bytes (Ok report) = report.bytes
piece_bytes (Err x) = 0

abbrev pub piece_carried : Result PieceReport Refusal → ℕ
piece_carried (Ok report) = report.carried
piece_carried (Err x) = 0

-- the answer for a piece s and a buffer of so many bytes, in these numbers: 1, then 10, else how many telegrams, bytes and carried bytes
pub record PieceValues (form : ℕ) (s : List ℕ) (room : ℕ) : Type 0 where
  pub unknown_form : is_serial form ≡ false → number_in (piece_answer form s room) ≡ 1
  pub short_buffer : is_serial form ≡ true → leb (length s) (room / 11) ≡ false → number_in (piece_answer form s room) ≡ 10
  pub done : is_serial form ≡ true → leb (length s) (room / 11) ≡ true → number_in (piece_answer form s room) ≡ 0
  pub telegrams :
      is_serial form ≡ true → leb (length s) (room / 11) ≡ true → piece_telegrams (piece_answer form s room) ≡ length (records_in form s)
  pub bytes :
      is_serial form ≡ true → leb (length s) (room / 11) ≡ true → piece_bytes (piece_answer form s room) ≡ length (printed (records_in form s))
  pub carried :
      is_serial form ≡ true → leb (length s) (room / 11) ≡ true → piece_carried (piece_answer form s room) ≡ length (carried_of form s)
