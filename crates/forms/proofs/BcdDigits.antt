-- A digit over 9 makes its place tell a number beyond all others, which is outside its range in each of the five places.
use Rattle.cond.proofs.Kit.{[], ◌<◌, ◌∙◌, ◌∷◌, ◌≡◌, ◌≤◌, ap, arith, eqb, eqb-true, false, false≢true, leb-true, length, List, ltb, ltb-true, not, refl, sym, true, ℕ}
use Rattle.cond.proofs.Tests.{both, either_way}
use Rattle.calendar.proofs.Ranges.{date_range, ordinal_range}
use Rattle.spelling.specs.Bytes.{all_are, digit, gap, groups_limit, groups_width}
use Rattle.record.specs.Answers.{number_in}
use Rattle.record.specs.declared.sign.SignRule.{SignRule}
use Rattle.record.specs.Record.{date_time_in_range, in_range, time_in_range}
use Rattle.forms.specs.BcdDigits.{BcdDigits, bcd_digits, has_digit_over_9}
use Rattle.forms.specs.Checksum.{checksums_hold}
use Rattle.forms.specs.Decode.{decode}
use Rattle.forms.specs.Form.{carries, range_tests, ranges, read_by, read_layout, validated, values_by}
use Rattle.forms.specs.Frame.{frame}
use Rattle.forms.specs.Places.{shape, values}
use Rattle.forms.specs.Slots.{hour, minute, ordinal, second, year}
use Rattle.forms.proofs.Accepted.{read_validated}
use Rattle.forms.proofs.All.{test_at}
use Rattle.forms.proofs.Allowed.{append_all}
use Rattle.forms.proofs.FrameDate.{in_range_lem, told}
use Rattle.forms.proofs.Frames.{frame_read}
use Rattle.forms.proofs.GroupDigits.{decimal, digits_at, is_decimal}
use Rattle.forms.proofs.Tests.{after}

module _ (x : SignRule) (s : List ℕ) (l : length s ≡ 100) (h : ranges (carries (frame x)) (values_by (frame x) s) ≡ true) where
  inside : in_range (decode (carries (frame x)) (values_by (frame x) s)) ≡ true
  unfolding ranges
  inside = test_at (range_tests (carries (frame x)) (values_by (frame x) s)) h 0

  -- the five numbers that are told in BCD
  record Numbers : Type 0 where
    hours : values_by (frame x) s hour < 24
    minutes : values_by (frame x) s minute < 60
    seconds : values_by (frame x) s second ≤ 60
    years : values_by (frame x) s year < 100
    days : values_by (frame x) s ordinal ≤ 366

  numbers : Numbers
  unfolding in_range time_in_range
  numbers =
      let v = values_by (frame x) s in
      let a = both (date_time_in_range (decode (carries (frame x)) v)) _ inside in
      let e = both (time_in_range (v hour) (v minute) (v second)) _ a.0 in
      let b = both (ltb (v hour) 24) _ e.0 in
      let c = both (ltb (v minute) 60) _ b.1 in
      let t = told (v year) (v ordinal) (in_range_lem x v h) in
      let d = date_range _ _ _ t.is.0 in
      record {
        hours = ltb-true (v hour) 24 b.0;
        minutes = ltb-true (v minute) 60 c.0;
        seconds = leb-true (v second) 60 c.1;
        years = d.years;
        days = omega (arith, ordinal_range _ _ _ d, t.is.1);
      }

  all_decimal : all_are is_decimal (bcd_digits s) ≡ true
  unfolding digits_at values groups_width groups_limit
  all_decimal =
      let n = numbers in
      let v = values_by (frame x) s in
      let seven = digit 4 ∷ gap 0 ∷ digit 3 ∷ [] in
      append_all is_decimal (digits_at 1 seven s) _ (decimal s 1 seven (v second) (omega arith) refl (omega (arith, n.seconds)))
      (append_all is_decimal (digits_at 10 seven s) _ (decimal s 10 seven (v minute) (omega arith) refl (omega (arith, n.minutes)))
      (append_all is_decimal (digits_at 20 (digit 4 ∷ gap 0 ∷ digit 2 ∷ []) s) _
      (decimal s 20 (digit 4 ∷ gap 0 ∷ digit 2 ∷ []) (v hour) (omega arith) refl (omega (arith, n.hours)))
      (append_all is_decimal (digits_at 30 (digit 4 ∷ gap 0 ∷ digit 4 ∷ gap 2 ∷ digit 2 ∷ []) s) _
      (decimal s 30 (digit 4 ∷ gap 0 ∷ digit 4 ∷ gap 2 ∷ digit 2 ∷ []) (v ordinal) (omega arith) refl (omega (arith, n.days)))
      (decimal s 50 (digit 4 ∷ gap 0 ∷ digit 4 ∷ []) (v year) (omega arith) refl (omega (arith, n.years))))))

-- so a digit over 9 is out of range
over_ranges : (x : SignRule) (s : List ℕ) → length s ≡ 100 → has_digit_over_9 s ≡ true → ranges (carries (frame x)) (values_by (frame x) s) ≡ false
over_ranges x s l h =
    either_way (ranges (carries (frame x)) (values_by (frame x) s)) (λ e. absurd (false≢true (ap not (sym (all_decimal x s l e)) ∙ h))) (λ e. e)

over_four : (x : SignRule) (s : List ℕ) → length s ≡ 100 → has_digit_over_9 s ≡ true → number_in (validated (carries (frame x)) (values_by (frame x) s)) ≡ 4
unfolding validated
over_four x s l h = simp (over_ranges x s l h)

pub bcd_digits_lem : (x : SignRule) → BcdDigits x
unfolding read_by read_layout
bcd_digits_lem x =
    record {
      four = λ s h. rw (frame_read x s)
          (after (eqb (length s) 100) (shape (frame x).layout 0 s) (checksums_hold (frame x).checksums s (values_by (frame x) s)) _
          (λ e. over_four x s (eqb-true (length s) 100 e) h));
      shaped_four = λ s h l p q. ap number_in (frame_read x s ∙ read_validated (frame x) s l p q) ∙ over_four x s l h;
    }
