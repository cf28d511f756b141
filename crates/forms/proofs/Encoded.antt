-- A record decoded from values tells those values again on the slots of its layout, has all that its form carries, and nothing else.
use Rattle.cond.proofs.Kit.{◌<◌, ◌∙◌, ◌≡◌, false, List, refl, sym, true}
use Rattle.record.specs.Record.{date_in_range}
use Rattle.forms.specs.Carries.{Carries, carries_of}
use Rattle.forms.specs.Fields.Date.{decode_date, date_kind, date_slots, weekday_consistent}
use Rattle.forms.specs.Fields.Flag.{quality_in_range}
use Rattle.forms.specs.Fields.Fraction.{fraction_kind, fraction_slots}
use Rattle.forms.specs.Fields.Offset.{is_offset, decode_minutes, offset_kind, offset_slots, offset_consistent, sign_rule, told_sign}
use Rattle.forms.specs.Fields.Position.{arc_in_range, position_consistent, position_kind, position_slots}
use Rattle.forms.specs.Fields.Time.{leap_consistent, seconds_consistent}
use Rattle.forms.specs.CarriedPart.{carried_part}
use Rattle.forms.specs.Required.{has_carried}
use Rattle.forms.specs.Places.{Layout, has}
use Rattle.forms.specs.Slots.{Slot, Values, among, change, channel, day, day_seconds, dsp, fix, is_checksum, leap, leap_second, lsp}
use Rattle.forms.specs.Slots.{month, notice, offset_minutes, quality, summer, sync, utc, weekday, year, zone}
use Rattle.forms.specs.Decode.{decode}
use Rattle.forms.specs.Encode.{encode}
use Rattle.forms.proofs.Agrees.{agreed, agrees, each_had}
use Rattle.forms.proofs.Complete.{Complete}
use Rattle.forms.proofs.Fields.Channel.{channel_carried, channel_encoded}
use Rattle.forms.proofs.Fields.Date.{date_carried, date_encoded, full_slots}
use Rattle.forms.proofs.Fields.Flag.{flag_carried, own_encoded, quality_encoded, shared_encoded}
use Rattle.forms.proofs.Fields.Fraction.{fraction_carried, fraction_encoded}
use Rattle.forms.proofs.Fields.Offset.{offset_carried, offset_encoded}
use Rattle.forms.proofs.Fields.Position.{position_carried, position_encoded}
use Rattle.forms.proofs.Fields.Time.{followed}
use Rattle.forms.proofs.Limits.{most}
use Rattle.forms.proofs.Slots.{Each, ◌and◌, ◌then◌, derived, field_slot, field_slots, listed, none, of_date, of_flags, of_fraction, of_offset, of_position}

-- what a reader that got so far knows of the values of a layout
pub record Read (ps : Layout) (v : Values) : Type 0 where
  pub small : (f : Slot) → has ps f ≡ true → v f < most f
  pub dates : date_in_range (decode_date (date_kind ps) v) ≡ true
  pub minutes : v offset_minutes < 60
  pub quality : quality_in_range (v Slot.quality) ≡ true
  pub deletion : v Slot.deletion ≡ 0
  pub arcs : arc_in_range v ≡ true
  pub weekdays : weekday_consistent (has ps weekday) v ≡ true
  pub leaps : leap_consistent (has ps leap_second) v ≡ true
  pub seconds : seconds_consistent (has ps day_seconds) v ≡ true
  pub offsets : offset_consistent (offset_kind ps) v ≡ true
  pub positions : position_consistent (position_kind ps) v ≡ true

module _ (ps : Layout) (c : Complete ps) (v : Values) (z : Read ps v) where
  -- the slot tells its value again, where the layout has it
  Again : Slot → Type 0
  Again f = has ps f ≡ true → encode (decode (carries_of ps) v) f ≡ v f

  small_of : (fs ks : List Slot) → agrees fs ks (has ps) ≡ true → (f : Slot) → among f fs ≡ true → among f ks ≡ true → v f < most f
  small_of fs ks h f i j = z.small f (agreed fs ks (has ps) h f i ∙ j)

  dates_again : Each Again of_date
  unfolding carries_of Again
  dates_again = each_had of_date (date_slots (date_kind ps)) (has ps) c.date _ (date_encoded (date_kind ps) v (decode (carries_of ps) v) refl z.dates)

  derived_again : Each Again derived
  unfolding carries_of Again weekday_consistent leap_consistent seconds_consistent
  derived_again =
      let at : (f : Slot) → among f of_date ≡ true → Again f = listed Again of_date dates_again in
      (λ h.
      let m = c.weekday h in
      let d = full_slots ps c.date m in
      rw (at year refl d.0, at month refl m, at day refl d.1) (sym (followed (has ps weekday) _ _ z.weekdays h)))
      and (λ h. sym (followed (has ps leap_second) _ _ z.leaps h))
      and (λ h. sym z.deletion)
      and (λ h. sym (followed (has ps day_seconds) _ _ z.seconds h))
      and none

  flags_again : Each Again of_flags
  unfolding carries_of Again most
  flags_again =
      (λ h. own_encoded _ (v sync) _ (rw h refl) (z.small sync h))
      and (λ h. quality_encoded _ _ (v quality) (rw (c.quality h, h) refl) z.quality)
      and (λ h. own_encoded _ (v fix) _ (rw h refl) (z.small fix h))
      and (λ h. shared_encoded (has ps zone) (has ps utc) (has ps summer) (v utc) (v summer) (v zone) h (z.small zone h))
      and (λ h. own_encoded _ (v utc) _ (rw (c.utc h, h) refl) (z.small utc h))
      and (λ h. own_encoded _ (v summer) _ (rw (c.summer h, h) refl) (z.small summer h))
      and (λ h. shared_encoded (has ps notice) (has ps change) (has ps leap) (v change) (v leap) (v notice) h (z.small notice h))
      and (λ h. own_encoded _ (v change) _ (rw (c.change h, h) refl) (z.small change h))
      and (λ h. own_encoded _ (v leap) _ (rw (c.leap h, h) refl) (z.small leap h))
      and (λ h. own_encoded _ (v dsp) _ (rw h refl) (z.small dsp h))
      and (λ h. own_encoded _ (v lsp) _ (rw h refl) (z.small lsp h))
      and none

  fields_again : Each Again field_slots
  unfolding carries_of Again
  fields_again =
      ((λ h. refl) and (λ h. refl) and (λ h. refl) and none)
      then derived_again
      then dates_again
      then each_had of_fraction (fraction_slots (fraction_kind ps)) (has ps) c.fraction _ (fraction_encoded (fraction_kind ps) v (decode (carries_of ps) v) refl)
      then ((λ h. channel_encoded (has ps channel) v h) and none)
      then flags_again
      then each_had of_offset (offset_slots (offset_kind ps)) (has ps) c.offset _
      (offset_encoded v (decode (carries_of ps) v) z.minutes (offset_kind ps) refl z.offsets (small_of of_offset (offset_slots (offset_kind ps)) c.offset))
      then each_had of_position (position_slots (position_kind ps)) (has ps) c.position _
      (position_encoded (position_kind ps) v (decode (carries_of ps) v) refl z.arcs z.positions (small_of of_position (position_slots (position_kind ps)) c.position))

  pub encoded_again : (f : Slot) → has ps f ≡ true → is_checksum f ≡ false → encode (decode (carries_of ps) v) f ≡ v f
  unfolding Again
  encoded_again f h n = listed Again field_slots fields_again f (field_slot f n) h

-- all that is carried is there, and nothing else

module _ (k : Carries) (v : Values) where
  decoded : (has_carried k (decode k v) ≡ true) × (carried_part k (decode k v) ≡ decode k v)
  unfolding has_carried carried_part
  decoded =
      let a = date_carried k.date v in
      let b = fraction_carried k.fraction v in
      let c = channel_carried k.channel v in
      let d = flag_carried k.sync (v sync) (v quality) in
      let e = flag_carried k.fix (v fix) 0 in
      let f = flag_carried k.utc (v utc) (v zone) in
      let g = flag_carried k.summer (v summer) (v zone) in
      let h = flag_carried k.change (v change) (v notice) in
      let i = flag_carried k.leap (v leap) (v notice) in
      let j = offset_carried (sign_rule k.offset) (is_offset k.offset) (told_sign k.offset v) (decode_minutes k.offset v) in
      let l = position_carried k.position v in
      let m = flag_carried k.dsp (v dsp) 0 in
      let n = flag_carried k.lsp (v lsp) 0 in
      (simp (a.0, b.0, c.0, d.0, e.0, f.0, g.0, h.0, i.0, j.0, l.0, m.0, n.0), simp (a.1, b.1, c.1, d.1, e.1, f.1, g.1, h.1, i.1, j.1, l.1, m.1, n.1))

  pub decoded_has : has_carried k (decode k v) ≡ true
  decoded_has = decoded.0

  pub decoded_carried : carried_part k (decode k v) ≡ decode k v
  decoded_carried = decoded.1
