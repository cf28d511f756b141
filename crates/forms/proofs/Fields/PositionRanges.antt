-- The ranges of a position: what a good record tells in each slot of either kind.
use Rattle.std.specs.Prelude.{Option, None, Some}
use Rattle.cond.proofs.Kit.{◌%◌, ◌/◌, ◌<◌, ◌≡◌, ◌≤◌, arith, Bool, false, leb, leb-true, nat_abs, refl, true, ℕ}
use Rattle.cond.specs.Pick.{pick}
use Rattle.cond.proofs.Tests.{both}
use Rattle.record.specs.Record.{position_in_range}
use Rattle.record.specs.Sign.{is_negative}
use Rattle.record.specs.declared.Position.{Position}
use Rattle.record.specs.declared.Position.TheVariants as PositionIs
use Rattle.record.specs.declared.Record.{Record}
use Rattle.forms.specs.Fields.Position.{PositionKind, carried_position, degrees, encode_altitude, encode_latitude, encode_longitude, latitude_of, longitude_of, minutes, no_position}
use Rattle.forms.specs.Slots.{Slot}
use Rattle.forms.specs.Encode.{encode}
use Rattle.forms.proofs.Fields.Flag.{one_lt}
use Rattle.forms.proofs.Limits.{bound}
use Rattle.forms.proofs.Slots.{Each, ◌and◌, none, of_position}

-- a record tells fewer than 60 minutes
pub arc_lt : (b : Bool) (n x : ℕ) → n ≡ pick b (x % 6000 / 100) 0 → n < 60
arc_lt true n x e = omega arith
arc_lt false n x e = omega arith

-- a position of one kind tells nothing in the other
record Within (x : Option Position) : Type 0 where
  pub latitude : encode_latitude degrees x ≤ 900000
  pub longitude : encode_longitude degrees x ≤ 1800000
  pub high : encode_altitude x < 10000
  pub arc_latitude : encode_latitude minutes x ≤ 540000
  pub arc_longitude : encode_longitude minutes x ≤ 1080000

within : (x : Option Position) → position_in_range x ≡ true → Within x
unfolding position_in_range
within None e =
    record { latitude = omega arith; longitude = omega arith; high = omega arith; arc_latitude = omega arith; arc_longitude = omega arith }
within (Some (PositionIs.Degrees lat lon alt)) e =
    let a = both (leb (nat_abs lat) 900000) _ e in
    let b = both (leb (nat_abs lon) 1800000) (leb alt 9999) a.1 in
    record {
      latitude = leb-true (nat_abs lat) 900000 a.0;
      longitude = leb-true (nat_abs lon) 1800000 b.0;
      high = omega (arith, leb-true alt 9999 b.1);
      arc_latitude = omega arith;
      arc_longitude = omega arith;
    }
within (Some (PositionIs.Minutes lat lon)) e =
    let a = both (leb (nat_abs lat) 540000) (leb (nat_abs lon) 1080000) e in
    record {
      latitude = omega arith;
      longitude = omega arith;
      high = omega arith;
      arc_latitude = leb-true (nat_abs lat) 540000 a.0;
      arc_longitude = leb-true (nat_abs lon) 1080000 a.1;
    }

pub position_lts : (r : Record) → position_in_range r.position ≡ true → Each (λ (f : Slot). encode r f < bound f) of_position
unfolding bound
position_lts r h =
    let x = within r.position h in
    let part : (n : ℕ) → n % 10000 < 10000 = λ n. omega arith in
    let arc : (n : ℕ) → n % 6000 / 100 < 60 = λ n. omega arith in
    let hundredth : (n : ℕ) → n % 100 < 100 = λ n. omega arith in
    let lat : encode_latitude degrees r.position / 10000 < 91 = omega (arith, x.latitude) in
    let lon : encode_longitude degrees r.position / 10000 < 181 = omega (arith, x.longitude) in
    let arc_lat : encode_latitude minutes r.position / 6000 < 91 = omega (arith, x.arc_latitude) in
    let arc_lon : encode_longitude minutes r.position / 6000 < 181 = omega (arith, x.arc_longitude) in
    one_lt (is_negative (latitude_of r.position)) and lat and part (encode_latitude degrees r.position)
    and arc_lat and arc (encode_latitude minutes r.position) and hundredth (encode_latitude minutes r.position)
    and one_lt (is_negative (longitude_of r.position)) and lon and part (encode_longitude degrees r.position)
    and arc_lon and arc (encode_longitude minutes r.position) and hundredth (encode_longitude minutes r.position)
    and x.high
    and none

pub position_stays : (k : PositionKind) (x : Option Position) → position_in_range x ≡ true → position_in_range (carried_position k x) ≡ true
unfolding position_in_range carried_position
position_stays no_position x h = refl
position_stays degrees x h = h
position_stays minutes x h = h
