-- A good record tells less than each slot's bound, and what a form carries of it is good.
use Rattle.std.specs.Prelude.{Option, None, Some}
use Rattle.cond.proofs.Kit.{◌&&◌, ◌<◌, ◌≡◌, arith, Bool, false, false≢true, lit<, not, refl, true}
use Rattle.cond.proofs.Tests.{both, pick_le}
use Rattle.record.specs.Record.{channel_in_range, date_in_range, date_time_in_range, fraction_in_range, in_range, is_good, is_yes, offset_in_range, position_in_range, rest_in_range, time_in_range, zone_agrees}
use Rattle.record.specs.declared.Record.{Record}
use Rattle.forms.specs.Carries.{Carries}
use Rattle.forms.specs.Fields.Flag.{is_carried, carried_flag}
use Rattle.forms.specs.Fields.Offset.{is_offset}
use Rattle.forms.specs.CarriedPart.{carried_part}
use Rattle.forms.specs.Slots.{Slot}
use Rattle.forms.specs.Encode.{encode}
use Rattle.forms.proofs.Fields.Channel.{channel_lt, channel_stays}
use Rattle.forms.proofs.Fields.Date.{date_lts, date_stays}
use Rattle.forms.proofs.Fields.Flag.{one_lt, pair_of}
use Rattle.forms.proofs.Fields.Fraction.{fraction_lts, fraction_stays}
use Rattle.forms.proofs.Fields.Offset.{offset_lts, offset_stays}
use Rattle.forms.proofs.Fields.PositionRanges.{position_lts, position_stays}
use Rattle.forms.proofs.Fields.Time.{derived_lts, time_lts}
use Rattle.forms.proofs.Limits.{bound}
use Rattle.forms.proofs.Slots.{Each, ◌and◌, ◌then◌, every_each, none, of_flags}

-- what a good record's parts pass
pub record Good (r : Record) : Type 0 where
  pub time : time_in_range r.hour r.minute r.second ≡ true
  pub date : date_in_range r.date ≡ true
  pub fraction : fraction_in_range r.fraction ≡ true
  pub channel : channel_in_range r.channel ≡ true
  pub offset : offset_in_range r.offset ≡ true
  pub position : position_in_range r.position ≡ true
  pub zoned : not (is_yes r.utc && is_yes r.summer) ≡ true

pub good : (r : Record) → is_good r ≡ true → Good r
unfolding is_good in_range zone_agrees
good r h =
    let a = both (in_range r) (zone_agrees r) h in
    let b = both (date_time_in_range r) (rest_in_range r) a.0 in
    let c = both (time_in_range r.hour r.minute r.second) (date_in_range r.date) b.0 in
    let d = both (fraction_in_range r.fraction) _ b.1 in
    let e = both (channel_in_range r.channel) _ d.1 in
    let f = both (offset_in_range r.offset) (position_in_range r.position) e.1 in
    record { time = c.0; date = c.1; fraction = d.0; channel = e.0; offset = f.0; position = f.1; zoned = a.1 }

pair_lt : (a b : Bool) → not (a && b) ≡ true → pair_of a b < 3
pair_lt false false h = lit< tt
pair_lt false true h = lit< tt
pair_lt true false h = lit< tt
pair_lt true true h = absurd (false≢true h)

module _ (r : Record) (c : Good r) where
  flag_lts : Each (λ (f : Slot). encode r f < bound f) of_flags
  unfolding bound
  flag_lts =
      let quality : encode r Slot.quality < 16 = omega (arith, pick_le (is_yes r.sync) 0 15 15 (omega arith) (omega arith)) in
      let notice : encode r Slot.notice < 4 = omega (arith, one_lt (is_yes r.change), one_lt (is_yes r.leap)) in
      one_lt (is_yes r.sync) and quality and one_lt (is_yes r.fix) and pair_lt (is_yes r.utc) (is_yes r.summer) c.zoned
      and one_lt (is_yes r.utc) and one_lt (is_yes r.summer) and notice and one_lt (is_yes r.change) and one_lt (is_yes r.leap)
      and one_lt (is_yes r.dsp) and one_lt (is_yes r.lsp) and none

  pub encode_lt : (f : Slot) → encode r f < bound f
  unfolding bound
  encode_lt =
      every_each (λ (f : Slot). encode r f < bound f)
      (time_lts r c.time then derived_lts r c.time then date_lts r c.date then fraction_lts r c.fraction
      then (channel_lt r.channel c.channel and none)
      then flag_lts
      then offset_lts r c.offset
      then position_lts r c.position
      then (lit< tt and none))

-- not both are yes in what is carried
not_both : (a b : Bool) (x y : Option Bool) → not (is_yes x && is_yes y) ≡ true → not (is_yes (carried_flag a x) && is_yes (carried_flag b y)) ≡ true
unfolding carried_flag
not_both false b x y h = refl
not_both true false None y h = refl
not_both true false (Some false) y h = refl
not_both true false (Some true) y h = refl
not_both true true x y h = h

-- what is carried of a good record is in range
pub carried_in_range : (k : Carries) (r : Record) → Good r → in_range (carried_part k r) ≡ true
unfolding in_range carried_part
carried_in_range k r c =
    simp (
      c.time,
      date_stays k.date r.date c.date,
      fraction_stays k.fraction r.fraction c.fraction,
      channel_stays k.channel r.channel c.channel,
      offset_stays (is_offset k.offset) r.offset c.offset,
      position_stays k.position r.position c.position,
    )

pub carried_zoned : (k : Carries) (r : Record) → Good r → zone_agrees (carried_part k r) ≡ true
unfolding zone_agrees carried_part
carried_zoned k r c = not_both (is_carried k.utc) (is_carried k.summer) r.utc r.summer c.zoned
