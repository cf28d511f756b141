-- The date of a frame is found by the calendar's search, which has that date alone; where it finds none, month 0 is out of range.
use Rattle.std.specs.Prelude.{Option, Some, None}
use Rattle.cond.proofs.Kit.{◌∙◌, ◌≡◌, ap, eqb, false≢true, length, List, refl, subst, sym, true, ℕ}
use Rattle.cond.proofs.Tests.{both, either_way}
use Rattle.calendar.specs.Answers.{date_day, date_month, date_of_day}
use Rattle.calendar.specs.Calendar.{is_date}
use Rattle.calendar.specs.declared.MonthDay.{MonthDay}
use Rattle.calendar.proofs.DayOfYear.{day_of, found_day}
use Rattle.record.specs.Answers.{number_in}
use Rattle.record.specs.Record.{date_in_range, date_time_in_range, in_range, time_in_range}
use Rattle.record.specs.declared.Record.{Record}
use Rattle.record.specs.declared.sign.SignRule.{SignRule}
use Rattle.record.specs.declared.sign.SignRule.TheVariants.{OneAbove, OneBelow}
use Rattle.record.proofs.Answers.{accepted_read}
use Rattle.forms.specs.Carries.{carries_of}
use Rattle.forms.specs.Checksum.{checksums_hold}
use Rattle.forms.specs.Decode.{decode}
use Rattle.forms.specs.Demand2.{Accepts}
use Rattle.forms.specs.Fields.Date.{date_on, decode_date}
use Rattle.forms.specs.Form.{carries, range_tests, ranges, read_by, read_layout, validated, values_by}
use Rattle.forms.specs.Frame.{frame}
use Rattle.forms.specs.FrameDate.{FrameDate, IsDay, TheDay}
use Rattle.forms.specs.Places.{has, shape}
use Rattle.forms.specs.Slots.{Values, ordinal, year}
use Rattle.forms.proofs.Accepted.{accepted}
use Rattle.forms.proofs.All.{test_at}
use Rattle.forms.proofs.Frames.{frame_read}
use Rattle.forms.proofs.Tests.{after}

date_of : (x : SignRule) (v : Values) → (decode (carries (frame x)) v).date ≡ date_on (v year) (date_of_day (v year) (v ordinal))
unfolding decode_date carries_of has
date_of OneAbove v = refl
date_of OneBelow v = refl

found : (x : SignRule) (v : Values) (m d : ℕ) → IsDay (v year) (v ordinal) m d → (decode (carries (frame x)) v).date ≡ date_on (v year) (Some (record { month = m; day = d }))
found x v m d h = date_of x v ∙ ap (date_on (v year)) (day_of (v year) m d (v ordinal) h.0 h.1)

-- a frame in its ranges tells a date
pub in_range_lem : (x : SignRule) (v : Values) → ranges (carries (frame x)) v ≡ true → date_in_range (date_on (v year) (date_of_day (v year) (v ordinal))) ≡ true
unfolding ranges in_range
in_range_lem x v h =
    let a = both (date_time_in_range (decode (carries (frame x)) v)) _ (test_at (range_tests (carries (frame x)) v) h 0) in
    ap date_in_range (sym (date_of x v)) ∙ (both (time_in_range _ _ _) _ a.0).1

pub told : (y n : ℕ) → date_in_range (date_on y (date_of_day y n)) ≡ true → TheDay y n (date_on y (date_of_day y n))
unfolding date_in_range is_date
told y n h = go (date_of_day y n) refl h
  where
    same : (k e : ℕ) (d : MonthDay) → Some (record { month = k; day = e }) ≡ Some d → (k ≡ d.month) × (e ≡ d.day)
    same k e d h = (ap date_month h, ap date_day h)

    go : (a : Option MonthDay) → date_of_day y n ≡ a → date_in_range (date_on y a) ≡ true → TheDay y n (date_on y a)
    go (Some d) e h =
        record { month = d.month; day = d.day; full = refl; is = found_day y n d.month d.day e; only = λ k f p. same k f d (sym (day_of y k f n p.0 p.1) ∙ e) }
    go None e h = absurd (false≢true h)

only : (x : SignRule) (s : List ℕ) (r : Record) → Accepts (read_by (frame x) s) r → TheDay (values_by (frame x) s year) (values_by (frame x) s ordinal) r.date
only x s r h =
    let v = values_by (frame x) s in
    let a = accepted (frame x) s _ (accepted_read (read_by (frame x) s) h.0) in
    let e : date_on (v year) (date_of_day (v year) (v ordinal)) ≡ r.date = sym (date_of x v) ∙ ap (λ q. q.date) (a.spelled ∙ h.1) in
    subst (TheDay (v year) (v ordinal)) e (told (v year) (v ordinal) (in_range_lem x v a.ranged))

none_four : (x : SignRule) (v : Values) → ((m d : ℕ) → IsDay (v year) (v ordinal) m d → ⊥) → number_in (validated (carries (frame x)) v) ≡ 4
unfolding validated
none_four x v none =
    either_way (ranges (carries (frame x)) v) (λ e. let t = told (v year) (v ordinal) (in_range_lem x v e) in absurd (none t.month t.day t.is))
    (λ e. simp e)

pub frame_date : (x : SignRule) → FrameDate x
unfolding read_by read_layout
frame_date x =
    record {
      found = found x;
      only = λ s r. rw (frame_read x s) (only x s r);
      none = λ s none. rw (frame_read x s)
          (after (eqb (length s) 100) (shape (frame x).layout 0 s) (checksums_hold (frame x).checksums s (values_by (frame x) s)) _
          (λ e. none_four x (values_by (frame x) s) none));
    }
