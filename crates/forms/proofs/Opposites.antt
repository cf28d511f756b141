-- The sign rule decides what the sign means, and nothing else: read under the two rules, a frame is refused alike or tells opposite offsets.
use Rattle.std.specs.Prelude.{Option, None, Some, Result, ℤ}
use Rattle.record.specs.declared.refusal.Refusal.{Refusal}
use Rattle.cond.proofs.Kit.{◌∙◌, ◌∷◌, ◌≡◌, ap, Bool, drop, false, leb, List, refl, true, ℕ}
use Rattle.cond.specs.Pick.{pick}
use Rattle.record.specs.Record.{in_range, offset_in_range, zone_agrees}
use Rattle.record.specs.declared.Record.{Record}
use Rattle.record.specs.declared.sign.SignRule.{SignRule}
use Rattle.record.specs.declared.sign.SignRule.TheVariants.{OneAbove, OneBelow}
use Rattle.record.proofs.Signs.{nat_abs_opposite}
use Rattle.forms.specs.All.{all}
use Rattle.forms.specs.Carries.{carries_of}
use Rattle.forms.specs.Checksum.{checksums_hold}
use Rattle.forms.specs.Decode.{decode, decode_channel, decode_date, decode_flag, decode_fraction, decode_minutes, decode_offset, decode_position}
use Rattle.forms.specs.Fields.Date.{weekday_consistent, weekday_in_range}
use Rattle.forms.specs.Fields.Offset.{opposite, told_by}
use Rattle.forms.specs.Fields.Time.{leap_consistent, seconds_consistent}
use Rattle.forms.specs.Form.{carries, consistent, numbers_in_range, range_tests, ranges, read_by, read_layout, signs_consistent, validated, values_by}
use Rattle.forms.specs.Frame.{frame}
use Rattle.forms.specs.FrameSigns.{record_with, turned}
use Rattle.forms.specs.Places.{has, shape, values}
use Rattle.forms.specs.Slots.{Values}

opposite_in_range : (r : Record) → in_range (record_with r (opposite r.offset)) ≡ in_range r
unfolding in_range offset_in_range
opposite_in_range r = simp (opposite_range r.offset)
  where
    opposite_range : (o : Option ℤ) → offset_in_range (opposite o) ≡ offset_in_range o
    opposite_range None = refl
    opposite_range (Some z) = ap (λ (n : ℕ). leb n 840) (nat_abs_opposite z)

pub decoded_by_lem : (x : SignRule) (s : List ℕ)
    → let r = decode (carries (frame OneBelow)) (values_by (frame OneBelow) s) in
    decode (carries (frame x)) (values_by (frame x) s) ≡ record_with r (told_by x r.offset)
unfolding carries_of has values decode_date decode_fraction decode_channel decode_flag decode_offset decode_position decode_minutes
decoded_by_lem OneBelow s = refl
decoded_by_lem OneAbove s = refl

turned_pick : (b : Bool) (x y : Result Record Refusal) → turned (pick b x y) ≡ pick b (turned x) (turned y)
turned_pick true x y = refl
turned_pick false x y = refl

module _ (s : List ℕ) where
  abbrev above : Values
  above = values_by (frame OneAbove) s

  abbrev below : Values
  below = values_by (frame OneBelow) s

  same_ranges : ranges (carries (frame OneAbove)) above ≡ ranges (carries (frame OneBelow)) below
  unfolding ranges numbers_in_range weekday_in_range carries_of has values
  same_ranges = ap (λ (b : Bool). all (b ∷ drop 1 (range_tests (carries (frame OneBelow)) below))) (ap in_range (decoded_by_lem OneAbove s) ∙ opposite_in_range (decode (carries (frame OneBelow)) below))

  same_consistent : consistent (carries (frame OneAbove)) above ≡ consistent (carries (frame OneBelow)) below
  unfolding consistent weekday_consistent leap_consistent seconds_consistent signs_consistent zone_agrees decode_flag decode_minutes carries_of has values
  same_consistent = refl

  pub opposites : read_by (frame OneAbove) s ≡ turned (read_by (frame OneBelow) s)
  unfolding read_by read_layout validated shape checksums_hold values
  opposites = simp (turned_pick, same_ranges, same_consistent, decoded_by_lem OneAbove s)
