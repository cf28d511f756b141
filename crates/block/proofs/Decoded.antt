-- What two layouts tell one behind the other: each field is told by the layout that has its slots.
use Rattle.cond.proofs.Kit.{[], ◌++◌, ◌∷◌, ◌≡◌, Bool, false, get_or, List, refl, true, ℕ}
use Rattle.cond.specs.Pick.{pick}
use Rattle.record.specs.declared.sign.SignRule.{SignRule}
use Rattle.record.specs.declared.sign.SignRule.TheVariants.{OneAbove, OneBelow}
use Rattle.forms.specs.Carries.{carries_of}
use Rattle.forms.specs.Fields.Channel.{decode_channel}
use Rattle.forms.specs.Fields.Date.{DateKind, decode_date, full_date, no_date, ordinal_date, year_and_day}
use Rattle.forms.specs.Fields.Flag.{FlagKind, by_quality, first_of_two, decode_flag, no_flag, own_letter, second_of_two}
use Rattle.forms.specs.Fields.Fraction.{FractionKind, decode_fraction, hundredths, no_fraction, ten_millionths, thousandths}
use Rattle.forms.specs.Fields.Offset.{OffsetKind, in_half_hours, in_minutes, is_offset, decode_minutes, no_offset, decode_offset, offset_consistent, sign_rule, sign_slot, told_by, told_sign}
use Rattle.forms.specs.Fields.Position.{PositionKind, arc_in_range, decode_position, degrees, minutes, no_position, position_consistent}
use Rattle.forms.specs.Places.{Layout, has, layout_width, values}
use Rattle.forms.specs.Slots.{Slot, Values, altitude, change, channel, dsp, fix, half_hour, hour, hundredth, latitude_minute, leap, lsp, minute, month, notice, offset_hours, offset_minutes, ordinal, plus, quality, second, summer, sync, ten_millionth, thousandth, utc, year, zone}
use Rattle.block_lines.specs.Reading.{change_slots, date_slots, decoded, fraction_slots, has_any, leap_slots, offset_slots, onto, position_slots, summer_slots, sync_slots, time_slots, utc_slots}
use Rattle.block.proofs.Fields.{field, member, only}

-- the slots of each field
abbrev pub groups : List (List Slot)
groups =
    time_slots ∷ date_slots ∷ fraction_slots ∷ (channel ∷ []) ∷ sync_slots ∷ (fix ∷ []) ∷ utc_slots ∷ summer_slots ∷ change_slots ∷ leap_slots ∷ offset_slots
    ∷ position_slots ∷ (dsp ∷ []) ∷ (lsp ∷ []) ∷ []

-- a field asks for its own slots alone

date_only : (k : DateKind) (v : Values) → decode_date k (only date_slots 0 v) ≡ decode_date k v
unfolding decode_date member
date_only no_date v = refl
date_only full_date v = refl
date_only year_and_day v = refl
date_only ordinal_date v = refl

fraction_only : (k : FractionKind) (v : Values) → decode_fraction k (only fraction_slots 0 v) ≡ decode_fraction k v
unfolding decode_fraction member
fraction_only no_fraction v = refl
fraction_only thousandths v = refl
fraction_only ten_millionths v = refl
fraction_only hundredths v = refl

channel_only : (t : Bool) (v : Values) → decode_channel t (only (channel ∷ []) 0 v) ≡ decode_channel t v
unfolding decode_channel member
channel_only true v = refl
channel_only false v = refl

minutes_only : (k : OffsetKind) (v : Values) → decode_minutes k (only offset_slots 0 v) ≡ decode_minutes k v
unfolding decode_minutes member
minutes_only no_offset v = refl
minutes_only in_minutes v = refl
minutes_only (in_half_hours x) v = refl

sign_only : (x : SignRule) (v : Values) → only offset_slots 0 v (sign_slot x) ≡ v (sign_slot x)
unfolding member
sign_only OneBelow v = refl
sign_only OneAbove v = refl

position_only : (k : PositionKind) (v : Values) → decode_position k (only position_slots 0 v) ≡ decode_position k v
unfolding decode_position member
position_only no_position v = refl
position_only degrees v = refl
position_only minutes v = refl

place_only : (k : PositionKind) (v : Values) → position_consistent k (only position_slots 0 v) ≡ position_consistent k v
unfolding member
place_only no_position v = refl
place_only degrees v = refl
place_only minutes v = refl

-- the kind of an offset by the slots that are there
abbrev offset_kind : (Slot → Bool) → OffsetKind
offset_kind h = pick (h half_hour) (in_half_hours (pick (h plus) OneAbove OneBelow)) (pick (h offset_hours) in_minutes no_offset)

-- and of a position
abbrev position_kind : (Slot → Bool) → PositionKind
position_kind h = pick (h altitude) degrees (pick (h latitude_minute) minutes no_position)

module _ (ps qs : Layout) (s : List ℕ) (a : (n : ℕ) → has_any qs (get_or groups n []) ≡ true → has_any ps (get_or groups n []) ≡ false) where
  number : (n : ℕ) (f : Slot) → ((h : Slot → Bool) (v : Values) → only (get_or groups n []) 0 v f ≡ v f)
      → values (ps ++ qs) 0 s f ≡ pick (has_any qs (get_or groups n [])) (values qs (layout_width ps) s f) (values ps 0 s f)
  number n f o = field ps qs s (get_or groups n []) (λ h v. v f) o (a n)

  flag : (n : ℕ) (k : (Slot → Bool) → FlagKind) (f : Slot) (w : Values → ℕ)
      → ((h : Slot → Bool) (v : Values) → decode_flag (k (only (get_or groups n []) false h)) (only (get_or groups n []) 0 v f) (w (only (get_or groups n []) 0 v)) ≡ decode_flag (k h) (v f) (w v))
      → decode_flag (k (has (ps ++ qs))) (values (ps ++ qs) 0 s f) (w (values (ps ++ qs) 0 s))
      ≡ pick (has_any qs (get_or groups n [])) (decode_flag (k (has qs)) (values qs (layout_width ps) s f) (w (values qs (layout_width ps) s)))
      (decode_flag (k (has ps)) (values ps 0 s f) (w (values ps 0 s)))
  flag n k f w o = field ps qs s (get_or groups n []) (λ h v. decode_flag (k h) (v f) (w v)) o (a n)

  pub encode_append : decoded (ps ++ qs) (values (ps ++ qs) 0 s)
      ≡ onto qs (decoded qs (values qs (layout_width ps) s)) (decoded ps (values ps 0 s))
  unfolding decoded onto carries_of member
  encode_append =
      let hour_is = number 0 hour (λ h v. refl) in
      let minute_is = number 0 minute (λ h v. refl) in
      let second_is = number 0 second (λ h v. refl) in
      let date_is = field ps qs s date_slots (λ h v. decode_date (pick (h month) full_date (pick (h year) year_and_day (pick (h ordinal) ordinal_date no_date))) v) (λ h v. date_only _ v) (a 1) in
      let fraction_is = field ps qs s fraction_slots (λ h v. decode_fraction (pick (h thousandth) thousandths (pick (h ten_millionth) ten_millionths (pick (h hundredth) hundredths no_fraction))) v) (λ h v. fraction_only _ v) (a 2) in
      let channel_is = field ps qs s (channel ∷ []) (λ h v. decode_channel (h channel) v) (λ h v. channel_only _ v) (a 3) in
      let sync_is = flag 4 (λ h. pick (h sync) own_letter (pick (h quality) by_quality no_flag)) sync (λ v. v quality) (λ h v. refl) in
      let fix_is = flag 5 (λ h. pick (h fix) own_letter no_flag) fix (λ v. 0) (λ h v. refl) in
      let utc_is = flag 6 (λ h. pick (h zone) first_of_two (pick (h utc) own_letter no_flag)) utc (λ v. v zone) (λ h v. refl) in
      let summer_is = flag 7 (λ h. pick (h zone) second_of_two (pick (h summer) own_letter no_flag)) summer (λ v. v zone) (λ h v. refl) in
      let change_is = flag 8 (λ h. pick (h notice) first_of_two (pick (h change) own_letter no_flag)) change (λ v. v notice) (λ h v. refl) in
      let leap_is = flag 9 (λ h. pick (h notice) second_of_two (pick (h leap) own_letter no_flag)) leap (λ v. v notice) (λ h v. refl) in
      let offset_is = field ps qs s offset_slots (λ h v. told_by (sign_rule (offset_kind h)) (decode_offset (is_offset (offset_kind h)) (told_sign (offset_kind h) v) (decode_minutes (offset_kind h) v))) (λ h v. simp (minutes_only, sign_only)) (a 10) in
      let position_is = field ps qs s position_slots (λ h v. decode_position (position_kind h) v) (λ h v. position_only _ v) (a 11) in
      let dsp_is = flag 12 (λ h. pick (h dsp) own_letter no_flag) dsp (λ v. 0) (λ h v. refl) in
      let lsp_is = flag 13 (λ h. pick (h lsp) own_letter no_flag) lsp (λ v. 0) (λ h v. refl) in
      let minutes_is = number 10 offset_minutes (λ h v. refl) in
      let zone_is = field ps qs s offset_slots (λ h v. offset_consistent (offset_kind h) v) (λ h v. simp (minutes_only, sign_only)) (a 10) in
      let place_is = field ps qs s position_slots (λ h v. position_consistent (position_kind h) v) (λ h v. place_only (position_kind h) v) (a 11) in
      let arc_is = field ps qs s position_slots (λ h v. arc_in_range v) (λ h v. refl) (a 11) in
      λ i. record {
        known = record {
          hour = hour_is i;
          minute = minute_is i;
          second = second_is i;
          date = date_is i;
          fraction = fraction_is i;
          channel = channel_is i;
          sync = sync_is i;
          fix = fix_is i;
          utc = utc_is i;
          summer = summer_is i;
          change = change_is i;
          leap = leap_is i;
          offset = offset_is i;
          position = position_is i;
          dsp = dsp_is i;
          lsp = lsp_is i;
        };
        minutes = minutes_is i;
        zone = zone_is i;
        place = place_is i;
        arc = arc_is i;
      }
