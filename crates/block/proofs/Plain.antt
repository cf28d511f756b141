-- A layout with no weekday, TFOM, deleted second, leap second or seconds of the day is validated by what its lines told.
use Rattle.std.specs.Prelude.{Ok, Err}
use Rattle.cond.proofs.Kit.{◌&&◌, ◌≡◌, and-true, false, List, ltb, ℕ}
use Rattle.cond.specs.Pick.{pick}
use Rattle.record.specs.declared.refusal.Refusal.TheVariants as refusal
use Rattle.record.specs.Record.{in_range, zone_agrees}
use Rattle.forms.specs.Carries.{carries_of}
use Rattle.forms.specs.Fields.Date.{weekday_in_range, weekday_consistent}
use Rattle.forms.specs.Fields.Position.{arc_in_range}
use Rattle.forms.specs.Fields.Time.{leap_consistent, seconds_consistent}
use Rattle.forms.specs.Form.{validated, numbers_in_range, ranges, signs_consistent, consistent}
use Rattle.forms.specs.Places.{Layout, has, values}
use Rattle.forms.specs.Slots.{day_seconds, deletion, leap_second, offset_minutes, quality, weekday}
use Rattle.forms.specs.Decode.{decode}
use Rattle.block_lines.specs.Reading.{decoded}
use Rattle.block.specs.Reading.{validated_state}
use Rattle.block.proofs.Columns.{values_none}

module _ (ps : Layout) (s : List ℕ) (w : has ps weekday ≡ false) (q : has ps quality ≡ false) (d : has ps deletion ≡ false) (l : has ps leap_second ≡ false) (t : has ps day_seconds ≡ false) where
  plain_ranges : ranges (carries_of ps) (values ps 0 s) ≡ (in_range (decode (carries_of ps) (values ps 0 s)) && (arc_in_range (values ps 0 s) && ltb (values ps 0 s offset_minutes) 60))
  unfolding ranges weekday_in_range numbers_in_range carries_of
  plain_ranges = simp (w, values_none s quality ps 0 q, values_none s deletion ps 0 d, and-true)

  plain_consistent : consistent (carries_of ps) (values ps 0 s) ≡ (signs_consistent (carries_of ps).offset (carries_of ps).position (values ps 0 s) && zone_agrees (decode (carries_of ps) (values ps 0 s)))
  unfolding consistent weekday_consistent leap_consistent seconds_consistent carries_of
  plain_consistent = simp (w, l, t)

  pub plain_validated : validated (carries_of ps) (values ps 0 s) ≡ validated_state (decoded ps (values ps 0 s))
  unfolding validated validated_state decoded signs_consistent
  plain_validated =
      λ i. pick (plain_ranges i) (pick (plain_consistent i) (Ok (decode (carries_of ps) (values ps 0 s))) (Err refusal.Disagreement)) (Err refusal.OutOfRange)
