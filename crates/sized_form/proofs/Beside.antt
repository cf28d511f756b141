-- What the last two tests of a reader come to where a form tells more beside its record than the weekday.
use Rattle.cond.proofs.Kit.{◌&&◌, ◌∙◌, ◌≡◌, ap, Bool, false, List, sym, true, ℕ}
use Rattle.record.specs.declared.Record.{Record}
use Rattle.record.specs.Record.{in_range}
use Rattle.forms.specs.Carries.{carries_of}
use Rattle.forms.specs.Fields.Date.{full_date, has_date, weekday_consistent, weekday_in_range}
use Rattle.forms.specs.Form.{Form, carries, consistent, numbers_in_range, range_tests, ranges, values_by}
use Rattle.forms.specs.Places.{has}
use Rattle.forms.specs.Slots.{day, month, weekday, year}
use Rattle.forms.proofs.All.{test_at}
use Rattle.places.specs.Weekday.{falls_on}
use Rattle.places.proofs.Validated.{decoded, full_date_lem, rest_consistent}
use Rattle.places.proofs.Weekday.{date_exists}
use Rattle.sized_form.proofs.Lean.{falls}

module _ (d : Form) (s : List ℕ) where
  -- what is told twice, told by u, of a form without a weekday
  pub agreed_beside : has d.layout weekday ≡ false → (u : Bool) → u ≡ rest_consistent d s → u ≡ consistent (carries d) (values_by d s)
  unfolding consistent carries_of weekday_consistent
  agreed_beside w u f = f ∙ sym (simp w)

  module _ (r : Record) (e : r ≡ decoded d s) where
    -- the ranges, where t tells the record's, o the weekday's and n those of the numbers beside it

    pub ranged_beside : has d.layout weekday ≡ false → (t n : Bool) → t ≡ in_range r → n ≡ numbers_in_range (values_by d s)
        → (t && n) ≡ ranges (carries d) (values_by d s)
    unfolding ranges carries_of weekday_in_range
    ranged_beside w t n f g = rw (f, g, e) (sym (simp w))

    pub ranged_beside_on : has d.layout weekday ≡ true → (t o n : Bool) → t ≡ in_range r → o ≡ weekday_in_range true (values_by d s weekday)
        → n ≡ numbers_in_range (values_by d s) → (t && (o && n)) ≡ ranges (carries d) (values_by d s)
    unfolding ranges carries_of weekday_in_range
    ranged_beside_on w t o n f g h = rw (f, g, h, e) (sym (simp w))

    -- and of a form with one, which is that of the date
    pub agreed_beside_on : has d.layout weekday ≡ true → has d.layout month ≡ true → ranges (carries d) (values_by d s) ≡ true
        → (u : Bool) → u ≡ rest_consistent d s → (falls_on r.date (values_by d s weekday) && u) ≡ consistent (carries d) (values_by d s)
    unfolding ranges consistent carries_of weekday_consistent
    agreed_beside_on w m g u f =
        let v = values_by d s in
        let q = full_date_lem d s m in
        let i = test_at (range_tests (carries d) v) g 0 in
        let x = falls (decoded d s).date (v year) (v month) (v day) (v weekday) q (date_exists (decoded d s) (ap (has_date full_date) q) i) in
        rw (f, e, x) (sym (simp w))
