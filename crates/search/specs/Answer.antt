-- What a search answers, and the paper's number and values for each answer.
use Rattle.std.specs.Prelude.{List, ℕ, Result, Ok, Err}
use Rattle.cond.specs.Pick.{pick}
use Rattle.record.specs.declared.Record.{Record}
use Rattle.record.specs.declared.refusal.Refusal.TheVariants as refusal
use Rattle.record.specs.Record.{empty_record}
use Rattle.record.specs.declared.refusal.Refusal.{Refusal}
use Rattle.forms.specs.Forms.{is_serial}
use Rattle.forms.specs.Valid.{length_of, valid_of}
use Rattle.stream.specs.Search.{first_from, found, not_found}
use Rattle.stream.specs.Search as stream
use Rattle.search.specs.declared.Found.{Found}

-- "12": "no valid string lies wholly at or after the given start"
abbrev pub searched : stream.Found Record → Result Found Refusal
searched (found p r) = Ok (record { at = p; told = r })
searched not_found = Err refusal.NotFound

-- "Search answers the first place, its record, or 1 or else 12, tested in that order"
unfoldable pub search_of : ℕ → List ℕ → ℕ → Result Found Refusal
search_of form s start =
    pick (is_serial form) (searched (first_from (length_of form) (valid_of form) s start)) (Err refusal.UnknownForm)

-- "with place 0 and the empty record"
abbrev pub finding_place : Result Found Refusal → ℕ
finding_place (Ok f) = f.at
finding_place (Err x) = 0

abbrev pub finding_record : Result Found Refusal → Record
finding_record (Ok f) = f.told
finding_record (Err x) = empty_record
