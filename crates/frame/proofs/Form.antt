-- A single element is its own number, so that 0 tells no and no sign; all but the meaning of the sign is the same under both rules.
use Rattle.std.specs.Prelude.{Option, None, Some, ℤ}
use Rattle.forms.proofs.Layouts.{piece_length}
use Rattle.spelling.proofs.Spelling.{sized_value}
use Rattle.spelling.specs.Spelling.{bits, value_of}
use Rattle.cond.proofs.Kit.{◌&&◌, ◌*◌, ◌+◌, ◌<◌, ◌∙◌, ◌≡◌, ◌≤◌, and-true, ap, arith, drop, drop-cons, eqb, get_or, leb, leb-true, length, List, ltb, ltb-true, ne_eqb, not, refl, suc, sym, take, true, zero, ℕ}
use Rattle.spelling.specs.Bytes.{bits_number}
use lib.Dec.{eqb-suc-zero}
use lib.IntN.{negsuc, pos}
use Rattle.cond.specs.Pick.{one_if}
use Rattle.record.specs.Sign.{signed}
use Rattle.record.proofs.Signs.{opposite_signed}
use Rattle.record.specs.declared.Record.{Record}
use Rattle.record.specs.declared.sign.SignRule.{SignRule}
use Rattle.record.specs.declared.sign.SignRule.TheVariants.{OneAbove, OneBelow}
use Rattle.record.specs.Record.{date_in_range, date_time_in_range, in_range, rest_in_range, time_in_range, zone_agrees}
use Rattle.forms.specs.Carries.{carries_of}
use Rattle.forms.specs.Checksum.{checksums_hold}
use Rattle.forms.specs.Fields.Date.{weekday_in_range, weekday_consistent}
use Rattle.forms.specs.Fields.Flag.{yes_no}
use Rattle.forms.specs.Fields.Offset.{decode_offset, encode_minus, encode_minutes, in_half_hours, told_by}
use Rattle.forms.specs.Fields.Sign.{negative, sign_consistent}
use Rattle.forms.specs.Fields.Time.{leap_consistent, seconds_consistent}
use Rattle.forms.specs.Form.{carries, consistent, numbers_in_range, range_tests, ranges, signs_consistent, values_by}
use Rattle.forms.specs.Frame.{frame}
use Rattle.forms.specs.Places.{has, values}
use Rattle.forms.specs.Required.{has_carried}
use Rattle.forms.specs.Slots.{minus}
use Rattle.forms.specs.Decode.{decode, decode_flag, decode_minutes}
use Rattle.fields.specs.Signs.{is_minus}
use Rattle.places.specs.Places.{flag_of}
use Rattle.cond.proofs.Tests.{both}
use Rattle.forms.proofs.All.{test_at}
use Rattle.frame.specs.Layouts.{minus_by, told}

yes_no_lem : (n : ℕ) → yes_no n ≡ flag_of (eqb n 0)
yes_no_lem zero = refl
yes_no_lem (suc n) = simp (ne_eqb (suc n) 0 (λ e. omega arith))

-- an element that is 0 means no
pub flag_bit : (s : List ℕ) (k : ℕ) → k < length s → yes_no (value_of (bits 1) (take 1 (drop k s))) ≡ flag_of (eqb (get_or s k 0) 0)
unfolding bits_number
flag_bit s k h =
    let e : get_or s k 0 + 0 * 2 ≡ get_or s k 0 = omega arith in
    ap yes_no (sized_value _ (bits 1) (piece_length k s 1 (omega arith))) ∙ rw (drop-cons s k 0 h) (ap yes_no e ∙ yes_no_lem (get_or s k 0))

-- and no sign
pub sign_test : (n : ℕ) → not (eqb n 0) ≡ negative n
sign_test zero = refl
sign_test (suc n) = simp (ne_eqb (suc n) 0 (λ e. omega arith))

-- what the sign tells

pub sign_read : (x : SignRule) (sign n : ℕ) → Some (signed (minus_by x (negative sign)) n) ≡ told_by x (decode_offset true sign n)
unfolding decode_offset
sign_read OneBelow sign n = refl
sign_read OneAbove zero n = ap Some (sym (opposite_signed n))
sign_read OneAbove (suc sign) zero = refl
sign_read OneAbove (suc sign) (suc n) = refl

pub sign_written : (x : SignRule) (o : Option ℤ) → one_if (minus_by x (is_minus o) && not (eqb (encode_minutes o) 0)) ≡ encode_minus (told_by x o)
sign_written OneBelow None = refl
sign_written OneBelow (Some (pos n)) = refl
sign_written OneBelow (Some (negsuc n)) = simp (eqb-suc-zero n)
sign_written OneAbove None = refl
sign_written OneAbove (Some (pos zero)) = refl
sign_written OneAbove (Some (pos (suc n))) = simp (eqb-suc-zero n)
sign_written OneAbove (Some (negsuc n)) = refl

-- what the sign rule leaves alone

pub parity_by : (x : SignRule) (s : List ℕ) → checksums_hold (frame OneBelow).checksums s (told s) ≡ checksums_hold (frame x).checksums s (values_by (frame x) s)
unfolding checksums_hold values
parity_by OneBelow s = refl
parity_by OneAbove s = refl

pub carried_by : (x : SignRule) (r : Record) → has_carried (carries (frame OneBelow)) r ≡ has_carried (carries (frame x)) r
unfolding has_carried carries_of has
carried_by OneBelow r = refl
carried_by OneAbove r = refl

-- the ranges and what is told twice

pub ranged_by : (x : SignRule) (s : List ℕ) (r : Record) → r ≡ decode (carries (frame x)) (values_by (frame x) s)
    → (in_range r && numbers_in_range (told s)) ≡ ranges (carries (frame x)) (values_by (frame x) s)
unfolding ranges carries_of has values weekday_in_range numbers_in_range
ranged_by OneBelow s r e = rw e
ranged_by OneAbove s r e = rw e

-- beside its record a frame tells the seconds of the day, and the sign of a zero
pub agreed_by : (x : SignRule) (s : List ℕ) → (seconds_consistent true (told s) && sign_consistent (told s minus) (decode_minutes (in_half_hours OneBelow) (told s)))
    ≡ consistent (carries (frame x)) (values_by (frame x) s)
unfolding consistent carries_of has values weekday_consistent leap_consistent seconds_consistent signs_consistent sign_consistent decode_minutes zone_agrees decode_flag
agreed_by OneBelow s = sym (simp and-true)
agreed_by OneAbove s = sym (simp and-true)

-- a time in range
pub time_told : (x : SignRule) (s : List ℕ) (r : Record) → r ≡ decode (carries (frame x)) (values_by (frame x) s) → ranges (carries (frame x)) (values_by (frame x) s) ≡ true
    → (r.hour ≤ 23) × (r.minute ≤ 59) × (r.second ≤ 60)
unfolding ranges in_range time_in_range
time_told x s r e g =
    let i = ap in_range e ∙ test_at (range_tests (carries (frame x)) (values_by (frame x) s)) g 0 in
    let d = both (date_time_in_range r) (rest_in_range r) i in
    let t = both (time_in_range r.hour r.minute r.second) (date_in_range r.date) d.0 in
    let h = both (ltb r.hour 24) (ltb r.minute 60 && leb r.second 60) t.0 in
    let m = both (ltb r.minute 60) (leb r.second 60) h.1 in
    (omega (arith, ltb-true r.hour 24 h.0), omega (arith, ltb-true r.minute 60 m.0), leb-true r.second 60 m.1)
