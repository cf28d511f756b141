-- W-202: "the frame's way back from a year and a day of year finds that date and no other, or gives 4 where there is none".
use Rattle.std.specs.Prelude.{true, false, List, [], ◌∷◌, ◌≡◌, ℕ, Option, Some}
use Rattle.calendar.specs.Calendar.{day_of_year, is_date}
use Rattle.record.specs.Answers.{number_in}
use Rattle.record.specs.declared.Date.{Date}
use Rattle.record.specs.declared.Date.TheVariants as DateIs
use Rattle.record.specs.declared.Record.{Record}
use Rattle.record.specs.declared.sign.SignRule.{SignRule}
use Rattle.forms.specs.All.{is_one_of}
use Rattle.forms.specs.Decode.{decode}
use Rattle.forms.specs.Demand2.{Accepts}
use Rattle.forms.specs.Form.{carries, values_by}
use Rattle.forms.specs.Forms.{frame_form, read_form}
use Rattle.forms.specs.Frame.{frame}
use Rattle.forms.specs.Slots.{Values, ordinal, year}

-- day n of the year yy is the day d of month m
abbrev pub IsDay : ℕ → ℕ → ℕ → ℕ → Type 0
IsDay y n m d = (is_date y m d ≡ true) × (day_of_year y m d ≡ n)

-- the one date that is day n of the year yy
pub record TheDay (y n : ℕ) (date : Option Date) : Type 0 where
  pub month : ℕ
  pub day : ℕ
  pub full : date ≡ Some (DateIs.Full y month day)
  pub is : IsDay y n month day
  pub only : (m d : ℕ) → IsDay y n m d → (m ≡ month) × (d ≡ day)

-- of both frames
pub record FrameDate (x : SignRule) : Type 0 where
  -- "finds that date": whatever date the year and the day of year are of
  pub found : (v : Values) (m d : ℕ) → IsDay (v year) (v ordinal) m d → (decode (carries (frame x)) v).date ≡ Some (DateIs.Full (v year) m d)
  -- "and no other": the date of an accepted frame
  pub only : (s : List ℕ) (r : Record) → Accepts (read_form (frame_form x) s) r → TheDay (values_by (frame x) s year) (values_by (frame x) s ordinal) r.date
  -- "or gives 4 where there is none": a frame that none of the tests before refuses
  pub none :
      (s : List ℕ) → ((m d : ℕ) → IsDay (values_by (frame x) s year) (values_by (frame x) s ordinal) m d → ⊥)
      → is_one_of (2 ∷ 3 ∷ 6 ∷ []) (number_in (read_form (frame_form x) s)) ≡ false → number_in (read_form (frame_form x) s) ≡ 4
