-- What a caller of `minute_told` may rely on, for every form's number and all bytes.
use Rattle.std.specs.Prelude.{List, ◌≡◌, ℕ, ◌<◌, None, Some, Ok}
use Rattle.record.specs.Answers.{read_record}
use Rattle.forms.specs.Forms.{read_form}
use Rattle.utc_minute.specs.Minute.{minute_told}

pub record Promise : Type 0 where
  -- a number is a minute of a day
  pub in_day : (form : ℕ) (telegram : List ℕ) (n : ℕ) → minute_told form telegram ≡ Ok (Some n) → n < 1440
  -- a field that was not sent is never made up: where the record has no offset, no number is told
  pub never_made_up :
      (form : ℕ) (telegram : List ℕ) (n : ℕ) → (read_record (read_form form telegram)).offset ≡ None
      → minute_told form telegram ≡ Ok (Some n) → ⊥
  -- so a RACAL string, which has no place for an offset, never tells a number
  pub racal_never : (telegram : List ℕ) (n : ℕ) → minute_told 5 telegram ≡ Ok (Some n) → ⊥
