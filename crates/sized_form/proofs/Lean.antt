-- What the last two tests of a reader come to where a form tells nothing beside its record but the weekday.
use Rattle.std.specs.Prelude.{Option, Some}
use Rattle.cond.proofs.Kit.{◌&&◌, ◌∙◌, ◌≡◌, and-true, ap, Bool, eqb, false, List, sym, true, ℕ}
use Rattle.calendar.specs.Calendar.{weekday_of}
use Rattle.record.specs.declared.Date.{Date}
use Rattle.record.specs.declared.Date.TheVariants as DateIs
use Rattle.record.specs.declared.Record.{Record}
use Rattle.record.specs.Record.{in_range}
use Rattle.forms.specs.Carries.{carries_of}
use Rattle.forms.specs.Fields.Date.{full_date, has_date, weekday_consistent, weekday_in_range}
use Rattle.forms.specs.Form.{Form, carries, consistent, range_tests, ranges, values_by}
use Rattle.forms.specs.Places.{has}
use Rattle.forms.specs.Slots.{day, month, weekday, year}
use Rattle.forms.proofs.All.{test_at}
use Rattle.places.specs.Weekday.{encode_weekday, exists, falls_on}
use Rattle.places.proofs.Validated.{decoded, full_date_lem, is_lean, numbers_lean, rest_lean}
use Rattle.places.proofs.Weekday.{date_exists}

-- a date that exists falls on its weekday alone
pub falls : (date : Option Date) (y m d n : ℕ) → date ≡ Some (DateIs.Full y m d) → exists date ≡ true → falls_on date n ≡ eqb n (weekday_of y m d)
falls date y m d n e t = rw t (ap (λ q. eqb n (encode_weekday q)) e)

module _ (d : Form) (s : List ℕ) (lean : is_lean d.layout ≡ true) (r : Record) (e : r ≡ decoded d s) where
  -- the ranges, where t tells the record's
  pub ranged : (t : Bool) → t ≡ in_range r → has d.layout weekday ≡ false → t ≡ ranges (carries d) (values_by d s)
  unfolding ranges carries_of weekday_in_range
  ranged t f w = f ∙ rw e (sym (simp (w, numbers_lean d s lean, and-true)))

  pub ranged_on : (t o : Bool) → t ≡ in_range r → o ≡ weekday_in_range true (values_by d s weekday) → has d.layout weekday ≡ true
      → (t && o) ≡ ranges (carries d) (values_by d s)
  unfolding ranges carries_of weekday_in_range
  ranged_on t o f g w = rw (f, g, e) (sym (simp (w, numbers_lean d s lean, and-true)))

  -- what is told twice
  pub agreed : has d.layout weekday ≡ false → true ≡ consistent (carries d) (values_by d s)
  unfolding consistent carries_of weekday_consistent
  agreed w = sym (simp (w, rest_lean d s lean))

  pub agreed_on : has d.layout weekday ≡ true → has d.layout month ≡ true → ranges (carries d) (values_by d s) ≡ true
      → falls_on r.date (values_by d s weekday) ≡ consistent (carries d) (values_by d s)
  unfolding ranges consistent carries_of weekday_consistent
  agreed_on w m g =
      let v = values_by d s in
      let q = full_date_lem d s m in
      let i = test_at (range_tests (carries d) v) g 0 in
      ap (λ (x : Record). falls_on x.date (v weekday)) e
      ∙ falls (decoded d s).date (v year) (v month) (v day) (v weekday) q (date_exists (decoded d s) (ap (has_date full_date) q) i)
      ∙ sym (simp (w, rest_lean d s lean, and-true))
