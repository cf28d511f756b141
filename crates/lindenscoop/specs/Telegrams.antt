-- What reading and writing answer, and every byte and number that they were lent afterwards.
use Rattle.record.specs.declared.Record.{Record}
use Rattle.record.specs.declared.refusal.Refusal.{Refusal}
use Rattle.std.specs.Prelude.{List, ◌≡◌, ℕ, length, take, Result, Ok, Err}
use Rattle.cond.specs.Pick.{pick}
use Rattle.record.specs.declared.refusal.Refusal.TheVariants as refusal
use Rattle.record.specs.Answers.{number_in, read_record, written_length}
use Rattle.forms.specs.Forms.{all_forms, form_kind_of, is_known, left_form, read_form, write_form}
use Rattle.flat_record.specs.Decode.{record_of}
use Rattle.flat_record.specs.Encode.{size}
use Rattle.lindenscoop.specs.Buffers.{record_fits, shown, too_short}

-- what reading answers, and every number afterwards
pub record ReadAs (form : ℕ) (input r : List ℕ) (n : ℕ) (r' : List ℕ) : Type 0 where
  pub number : n ≡ pick (record_fits r) (number_in (read_form form input)) too_short
  -- "A refused read returns the number and the empty record."
  pub numbers : r' ≡ pick (record_fits r) (shown (read_record (read_form form input)) r) r

-- the writer's answer to a record, and to numbers that are none: "writers 1, 7, 8, 9, 10", by the list of all forms
unfoldable pub writing_of : ℕ → Result Record Refusal → ℕ → Result ℕ Refusal
writing_of form (Ok r) room = write_form form r room
writing_of form (Err x) room = pick (is_known (form_kind_of all_forms form)) (Err x) (Err refusal.UnknownForm)

-- what it leaves in the buffer
unfoldable pub left_with : ℕ → Result Record Refusal → List ℕ → List ℕ
left_with form (Ok r) out = left_form form r out
left_with form (Err x) out = out

-- what the contract of `write_numbers` says
pub record WroteNumbers (form : ℕ) (r : List ℕ) (w : Result ℕ Refusal) (before after : List ℕ) : Type 0 where
  pub answer : w ≡ writing_of form (record_of r) (length before)
  pub left : after ≡ left_with form (record_of r) before

-- the record of the numbers at the head of a buffer; what stands behind them is not looked at
abbrev pub given_record : List ℕ → Result Record Refusal
given_record r = record_of (take size r)

-- "A refused write returns the number and length 0 and changes no byte."
pub record WrittenAs (form : ℕ) (r before : List ℕ) (n : ℕ) (after : List ℕ) (written : ℕ) : Type 0 where
  pub number : n ≡ pick (record_fits r) (number_in (writing_of form (given_record r) (length before))) too_short
  pub left : after ≡ pick (record_fits r) (left_with form (given_record r) before) before
  pub length_is : written ≡ pick (record_fits r) (written_length (writing_of form (given_record r) (length before))) 0
