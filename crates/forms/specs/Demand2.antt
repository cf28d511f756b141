-- Demand 2: "Reading and writing follow the Meinberg manuals ..", in the paper's numbers and values. What each form carries is the table
-- of `Columns`.
use Rattle.record.specs.declared.refusal.Refusal.{Refusal}
use Rattle.std.specs.Prelude.{Bool, true, ◌||◌, List, ◌++◌, ◌≡◌, ℕ, ◌≤◌, ◌<◌, eqb, drop, get_or, length, set, take, Some, Result}
use Rattle.calendar.specs.Calendar.{day_of_year}
use Rattle.record.specs.Answers.{number_in, read_record, written_length}
use Rattle.record.specs.declared.Date.TheVariants as DateIs
use Rattle.record.specs.declared.Record.{Record}
use Rattle.forms.specs.Forms.{carried_form, has_carried_form, left_form, read_form, write_form}

-- the reader accepts the input, and this is its record
abbrev pub Accepts : Result Record Refusal → Record → Type 0
Accepts a r = (number_in a ≡ 0) × (read_record a ≡ r)

-- the number and the length that a writer answers for a buffer
abbrev pub number_into : ℕ → Record → List ℕ → ℕ
number_into form r out = number_in (write_form form r (length out))

abbrev pub length_into : ℕ → Record → List ℕ → ℕ
length_into form r out = written_length (write_form form r (length out))

-- SPA and RMC strings, which have an exclusive-or of their bytes
abbrev pub is_summed : ℕ → Bool
is_summed form = eqb form 4 || eqb form 12

-- for every form's number
pub record Demand2 : Type 0 where
  -- "A read yields the fields which that form carries"
  pub yields :
      (form : ℕ) (input : List ℕ) → number_in (read_form form input) ≡ 0 → has_carried_form form (read_record (read_form form input)) ≡ true
  -- "and marks every other field absent"
  pub alone :
      (form : ℕ) (input : List ℕ) → number_in (read_form form input) ≡ 0
      → carried_form form (read_record (read_form form input)) ≡ read_record (read_form form input)
  -- "A record written and read back keeps exactly its carried fields"
  pub written :
      (form : ℕ) (r : Record) (out : List ℕ) → number_into form r out ≡ 0
      → Accepts (read_form form (take (length_into form r out) (left_form form r out))) (carried_form form r)
  -- "(of a full date, a SYSPLEX string keeps the day of year)"
  pub day_of_year_lem :
      (r : Record) (out : List ℕ) (y m d : ℕ) → r.date ≡ Some (DateIs.Full y m d) → number_into 6 r out ≡ 0
      → (read_record (read_form 6 (take (length_into 6 r out) (left_form 6 r out)))).date ≡ Some (DateIs.DayOfYear (day_of_year y m d))
  -- "A write that succeeds fills the first bytes and returns their number; the bytes behind stay."
  pub behind :
      (form : ℕ) (r : Record) (out : List ℕ) → number_into form r out ≡ 0
      → drop (length_into form r out) (left_form form r out) ≡ drop (length_into form r out) out
  -- "an accepted input, written again, is the same bytes"
  pub again :
      (form : ℕ) (input : List ℕ) (r : Record) (out : List ℕ) → Accepts (read_form form input) r → length input ≤ length out
      → (number_into form r out ≡ 0)
      × (length_into form r out ≡ length input)
      × (left_form form r out ≡ input ++ drop (length input) out)
  -- "One byte replaced by another in an SPA string is always refused."; and in an RMC string
  pub replaced :
      (form : ℕ) (input : List ℕ) (place byte : ℕ) → is_summed form ≡ true → number_in (read_form form input) ≡ 0 → place < length input
      → (byte ≡ get_or input place 0 → ⊥)
      → number_in (read_form form (set input place byte)) ≡ 0
      → ⊥
