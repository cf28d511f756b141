-- Demand 1 of readers and writers: "Every call ends with one answer, for all input bytes, records ..", in the paper's numbers.
use Rattle.std.specs.Prelude.{true, List, [], ◌∷◌, ◌≡◌, ℕ, length}
use Rattle.record.specs.Answers.{number_in, read_record, written_length}
use Rattle.record.specs.Record.{empty_record}
use Rattle.record.specs.declared.Record.{Record}
use Rattle.forms.specs.All.{is_one_of}
use Rattle.forms.specs.Forms.{left_form, read_form, write_form}

-- "A refusal carries a number from document 01": for every form's number, every input, every record and every buffer
pub record Demand1 : Type 0 where
  -- "Readers test in the order 1, 2, 3, 6, 4, 5"; 0 is no refusal
  pub reads : (form : ℕ) (input : List ℕ) → is_one_of (0 ∷ 1 ∷ 2 ∷ 3 ∷ 6 ∷ 4 ∷ 5 ∷ []) (number_in (read_form form input)) ≡ true
  -- "A refused read returns the empty record"
  pub empty : (form : ℕ) (input : List ℕ) → (number_in (read_form form input) ≡ 0 → ⊥) → read_record (read_form form input) ≡ empty_record
  -- "writers 1, 7, 8, 9, 10"
  pub writes :
      (form : ℕ) (r : Record) (room : ℕ) → is_one_of (0 ∷ 1 ∷ 7 ∷ 8 ∷ 9 ∷ 10 ∷ []) (number_in (write_form form r room)) ≡ true
  -- "A refused write returns the number and length 0"
  pub no_length :
      (form : ℕ) (r : Record) (room : ℕ) → (number_in (write_form form r room) ≡ 0 → ⊥) → written_length (write_form form r room) ≡ 0
  -- "and a refused write changes no byte of the buffer"
  pub untouched :
      (form : ℕ) (r : Record) (out : List ℕ) → (number_in (write_form form r (length out)) ≡ 0 → ⊥) → left_form form r out ≡ out
