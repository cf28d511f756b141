-- The values of a good record are decoded to what its form carries of it, and the reader's ranges and consistency hold of them.
use Rattle.std.specs.Prelude.{Ok}
use Rattle.cond.proofs.Kit.{◌<◌, ◌∙◌, ◌≡◌, ap, eqb, false, List, lt-ltb, not, not-true, refl, sym, true, ℕ}
use Rattle.cond.specs.Pick.{one_if, pick}
use Rattle.cond.proofs.Tests.{both_hold}
use Rattle.record.specs.Record.{in_range, is_yes, zone_agrees}
use Rattle.record.specs.declared.Record.{Record}
use Rattle.forms.specs.Carries.{carries_of}
use Rattle.forms.specs.Fields.Date.{date_kind, date_slots, encode_day, encode_month, weekday_in_range, weekday_consistent, encode_year}
use Rattle.forms.specs.Fields.Fraction.{fraction_kind, fraction_slots}
use Rattle.forms.specs.Fields.Offset.{offset_kind, offset_slots}
use Rattle.forms.specs.Fields.Position.{arc_in_range, position_kind, position_slots}
use Rattle.forms.specs.Fields.Time.{leap_consistent, seconds_consistent}
use Rattle.forms.specs.Form.{validated, numbers_in_range, ranges, signs_consistent, consistent}
use Rattle.forms.specs.CarriedPart.{carried_part}
use Rattle.forms.specs.Required.{has_carried}
use Rattle.forms.specs.Places.{Layout, has}
use Rattle.forms.specs.Slots.{Slot, Values, among, change, channel, day, day_seconds, deletion, dsp, fix, half_hour, hour, is_checksum, latitude_minute, leap, leap_second, longitude_minute, lsp, minus, minute, month}
use Rattle.forms.specs.Slots.{notice, offset_minutes, quality, second, summer, sync, utc, weekday, year, zone}
use Rattle.forms.specs.Decode.{decode}
use Rattle.forms.specs.Encode.{encode}
use Rattle.forms.proofs.Agrees.{agreed, agrees}
use Rattle.forms.proofs.Bounds.{Good, carried_in_range, carried_zoned}
use Rattle.forms.proofs.Complete.{Complete}
use Rattle.forms.proofs.Fields.Channel.{channel_decoded}
use Rattle.forms.proofs.Fields.Date.{date_decoded, full_slots, weekday_holds}
use Rattle.forms.proofs.Fields.Flag.{first_decoded, own_decoded, quality_holds, second_decoded, sync_decoded}
use Rattle.forms.proofs.Fields.Fraction.{fraction_decoded}
use Rattle.forms.proofs.Fields.Offset.{Offsets, minutes_lt, offset_decoded, offset_consistent_lem}
use Rattle.forms.proofs.Fields.Position.{position_decoded, position_consistent_lem}
use Rattle.forms.proofs.Fields.PositionRanges.{arc_lt}
use Rattle.forms.proofs.Fields.Time.{deletion_holds, follows_holds}
use Rattle.forms.proofs.Required.{all_of}
use Rattle.forms.proofs.Slots.{every, every_in, of_date, of_fraction, of_offset, of_position, of_time}

-- what the bytes of a record tell: its own values where the layout has places, else nothing
pub record Encodes (ps : Layout) (r : Record) (v : Values) : Type 0 where
  pub values : (f : Slot) → is_checksum f ≡ false → v f ≡ pick (has ps f) (encode r f) 0
  pub time : (f : Slot) → among f of_time ≡ true → v f ≡ encode r f
  pub zone : has ps Slot.zone ≡ true → encode r Slot.zone < 3
  pub notice : has ps Slot.notice ≡ true → encode r Slot.notice < 3
  pub half : has ps half_hour ≡ true → v half_hour < 2

module _ (ps : Layout) (c : Complete ps) (r : Record) (g : Good r) (v : Values) (t : Encodes ps r v) where
  here : (f : Slot) → is_checksum f ≡ false → has ps f ≡ true → v f ≡ encode r f
  here f n h = t.values f n ∙ simp h

  -- the slots of a field's kind tell the field, and its other slots nothing
  module _ (fs ks : List Slot) (n : every fs (λ (f : Slot). not (is_checksum f)) ≡ true) (a : agrees fs ks (has ps) ≡ true) where
    field_here : (f : Slot) → among f fs ≡ true → among f ks ≡ true → v f ≡ encode r f
    field_here f i j = here f (not-true _ (every_in fs (λ (f : Slot). not (is_checksum f)) n f i)) (agreed fs ks (has ps) a f i ∙ j)

    field_nowhere : (f : Slot) → among f fs ≡ true → among f ks ≡ false → v f ≡ 0
    field_nowhere f i j = t.values f (not-true _ (every_in fs (λ (f : Slot). not (is_checksum f)) n f i)) ∙ simp (agreed fs ks (has ps) a f i ∙ j)

  offsets : Offsets r v (offset_kind ps)
  unfolding every
  offsets = (
    field_here of_offset (offset_slots (offset_kind ps)) refl c.offset,
    λ h. t.half (agreed of_offset (offset_slots (offset_kind ps)) (has ps) c.offset half_hour refl ∙ h),
  )

  -- the record that is read is the one that is carried
  pub same_record : has_carried (carries_of ps) r ≡ true → decode (carries_of ps) v ≡ carried_part (carries_of ps) r
  unfolding carried_part carries_of every
  same_record h =
      let a = all_of (carries_of ps) r h in
      λ x.
      record {
        hour = t.time hour refl x;
        minute = t.time minute refl x;
        second = t.time second refl x;
        date = date_decoded (date_kind ps) r v a.date g.date (field_here of_date (date_slots (date_kind ps)) refl c.date) x;
        fraction = fraction_decoded (fraction_kind ps) r v a.fraction (field_here of_fraction (fraction_slots (fraction_kind ps)) refl c.fraction) x;
        channel = channel_decoded (has ps channel) r.channel v a.channel (here channel refl) x;
        sync = sync_decoded (has ps sync) (has ps quality) r.sync (v sync) (v quality) a.sync (here sync refl) (here quality refl) x;
        fix = own_decoded (has ps fix) r.fix (v fix) 0 a.fix (here fix refl) x;
        utc = first_decoded (has ps zone) r.utc r.summer (v zone) t.zone (here zone refl)
            (has ps utc) (v utc) a.utc (here utc refl) x;
        summer = second_decoded (has ps zone) r.utc r.summer (v zone) t.zone (here zone refl)
            (has ps summer) (v summer) a.summer (here summer refl) x;
        change = first_decoded (has ps notice) r.change r.leap (v notice) t.notice (here notice refl)
            (has ps change) (v change) a.change (here change refl) x;
        leap = second_decoded (has ps notice) r.change r.leap (v notice) t.notice (here notice refl)
            (has ps leap) (v leap) a.leap (here leap refl) x;
        offset = offset_decoded r v (offset_kind ps) a.offset offsets x;
        position = position_decoded r v (position_kind ps) a.position (field_here of_position (position_slots (position_kind ps)) refl c.position) x;
        dsp = own_decoded (has ps dsp) r.dsp (v dsp) 0 a.dsp (here dsp refl) x;
        lsp = own_decoded (has ps lsp) r.lsp (v lsp) 0 a.lsp (here lsp refl) x;
      }

  arcs : arc_in_range v ≡ true
  arcs =
      both_hold _ _ (lt-ltb (v latitude_minute) 60 (arc_lt (has ps latitude_minute) _ _ (t.values latitude_minute refl)))
      (lt-ltb (v longitude_minute) 60 (arc_lt (has ps longitude_minute) _ _ (t.values longitude_minute refl)))

  numbers : numbers_in_range v ≡ true
  unfolding numbers_in_range
  numbers =
      simp (
        lt-ltb (v offset_minutes) 60 (minutes_lt (has ps offset_minutes) (v offset_minutes) _ (t.values offset_minutes refl)),
        quality_holds (has ps quality) (is_yes r.sync) (v quality) (t.values quality refl),
        deletion_holds (has ps deletion) (v deletion) (t.values deletion refl),
        arcs,
      )

  signs : has_carried (carries_of ps) r ≡ true → signs_consistent (offset_kind ps) (position_kind ps) v ≡ true
  unfolding signs_consistent carries_of every
  signs h =
      simp (
        offset_consistent_lem r v (offset_kind ps) offsets (field_nowhere of_offset (offset_slots (offset_kind ps)) refl c.offset minus refl),
        position_consistent_lem r v (position_kind ps) (all_of (carries_of ps) r h).position (field_here of_position (position_slots (position_kind ps)) refl c.position)
            (field_nowhere of_position (position_slots (position_kind ps)) refl c.position),
      )

  weekdays : weekday_consistent (has ps weekday) v ≡ true
  unfolding weekday_consistent
  weekdays =
      follows_holds (has ps weekday) _ _
      (λ i.
      let m = c.weekday i in
      let d = full_slots ps c.date m in
      here weekday refl i ∙ sym (rw (here year refl d.0, here month refl m, here day refl d.1) refl))

  leaps : leap_consistent (has ps leap_second) v ≡ true
  unfolding leap_consistent
  leaps = follows_holds (has ps leap_second) _ _ (λ i. here leap_second refl i ∙ ap (λ (x : ℕ). one_if (eqb x 60)) (sym (t.time second refl)))

  seconds : seconds_consistent (has ps day_seconds) v ≡ true
  unfolding seconds_consistent
  seconds =
      follows_holds (has ps day_seconds) _ _
      (λ i. here day_seconds refl i ∙ sym (rw (t.time hour refl, t.time minute refl, t.time second refl) refl))

  -- so the reader takes it
  pub validated_carried : has_carried (carries_of ps) r ≡ true → validated (carries_of ps) v ≡ Ok (carried_part (carries_of ps) r)
  unfolding validated ranges consistent
  validated_carried h =
      let q = same_record h in
      let inside : in_range (decode (carries_of ps) v) ≡ true = ap in_range q ∙ carried_in_range (carries_of ps) r g in
      let zoned : zone_agrees (decode (carries_of ps) v) ≡ true = ap zone_agrees q ∙ carried_zoned (carries_of ps) r g in
      let week : weekday_in_range (carries_of ps).weekday (v weekday) ≡ true =
      unfold carries_of in weekday_holds (has ps weekday) (v weekday) (encode_year r.date) (encode_month r.date) (encode_day r.date) (here weekday refl) in
      let is_consistent : weekday_consistent (carries_of ps).weekday v ≡ true = unfold carries_of in weekdays in
      let leap : leap_consistent (carries_of ps).leap_second v ≡ true = unfold carries_of in leaps in
      let second : seconds_consistent (carries_of ps).day_seconds v ≡ true = unfold carries_of in seconds in
      let signed : signs_consistent (carries_of ps).offset (carries_of ps).position v ≡ true = unfold carries_of in signs h in
      simp (inside, week, numbers, is_consistent, leap, second, signed, zoned) (ap Ok q)
