-- The records of a piece of the stream, and the bytes that tell them: "It prints each record as a block and an empty line".
use Rattle.record.specs.declared.refusal.Refusal.{Refusal}
use Rattle.std.specs.Prelude.{List, [], ◌∷◌, ◌++◌, ◌≡◌, ℕ, ◌/◌, leb, length, drop, Result, Ok, Err}
use Rattle.cond.specs.Pick.{pick}
use Rattle.record.specs.declared.Record.{Record}
use Rattle.record.specs.declared.refusal.Refusal.TheVariants as refusal
use Rattle.forms.specs.Block.{block_of, first_edition}
use Rattle.forms.specs.Form.{bytes_by}
use Rattle.forms.specs.Forms.{is_serial}
use Rattle.forms.specs.Encode.{encode}
use Rattle.forms.specs.Valid.{length_of, valid_of}
use Rattle.stream.specs.Search.{search_from}
use Rattle.report.specs.declared.records.Report.{Report}

-- "a block and an empty line"
unfoldable pub paragraph : Record → List ℕ
paragraph r = bytes_by (block_of first_edition r) (encode r) ++ (10 ∷ [])

unfoldable pub printed : List Record → List ℕ
printed [] = []
printed (r ∷ rs) = paragraph r ++ printed rs

-- "Repeated search, going on behind each string found"
abbrev pub records_in : ℕ → List ℕ → List Record
records_in form s = search_from (length_of form) (valid_of form) s 0

-- so many telegrams, told by so many bytes
abbrev pub listed : ℕ → ℕ → Result Report Refusal
listed telegrams bytes = Ok (record { telegrams = telegrams; bytes = bytes })

-- refusal 1, then 10 where the buffer has fewer than 11 bytes for each byte of the piece
unfoldable pub records_answer : ℕ → List ℕ → ℕ → Result Report Refusal
records_answer form s room =
    pick (is_serial form)
    (pick (leb (length s) (room / 11)) (listed (length (records_in form s)) (length (printed (records_in form s))))
    (Err refusal.ShortBuffer))
    (Err refusal.UnknownForm)

-- a refusal "changes no byte", and behind what is told "the bytes .. stay"
abbrev pub left_records : Result Report Refusal → List ℕ → List ℕ → List ℕ
left_records (Ok report) bytes out = bytes ++ drop report.bytes out
left_records (Err x) bytes out = out

-- what the contract of `write_records` says: its answer, and every byte of the buffer afterwards
pub record WroteRecords (form : ℕ) (s : List ℕ) (t : Result Report Refusal) (before after : List ℕ) : Type 0 where
  pub answer : t ≡ records_answer form s (length before)
  pub left : after ≡ left_records t (printed (records_in form s)) before
