-- The position: two signed numbers, each by its degrees, what stands behind them and a letter, and in degrees the altitude.
use Rattle.std.specs.Prelude.{Option, None, Some}
use Rattle.cond.proofs.Kit.{◌%◌, ◌*◌, ◌+◌, ◌/◌, ◌<◌, ◌∙◌, ◌≡◌, ap, arith, Bool, digits_div, digits_mod, false, false≢true, ltb, ltb-true, nat_abs, refl, true, ℕ, ℤ}
use Rattle.cond.proofs.Tests.{both, both_hold}
use Rattle.record.specs.declared.Position.{Position}
use Rattle.record.specs.declared.Position.TheVariants as PositionIs
use Rattle.record.specs.declared.Record.{Record}
use Rattle.record.proofs.Signs.{nat_abs_signed}
use Rattle.forms.specs.Fields.Position.{PositionKind, arc_in_range, carried_position, decode_latitude, decode_longitude, decode_position, degrees, encode_altitude, encode_latitude}
use Rattle.forms.specs.Fields.Position.{encode_longitude, encode_south, encode_west, has_position, in_hundredths, latitude_of, longitude_of, minutes, no_position}
use Rattle.forms.specs.Fields.Position.{position_consistent, position_kind, position_slots, signed_latitude, signed_longitude}
use Rattle.forms.specs.Fields.Sign.{negative, sign_consistent}
use Rattle.forms.specs.Places.{Layout, has}
use Rattle.forms.specs.Slots.{Slot, Values, altitude, among, latitude_degrees, latitude_hundredth, latitude_minute, latitude_part, latitude_whole}
use Rattle.forms.specs.Slots.{longitude_degrees, longitude_hundredth, longitude_minute, longitude_part, longitude_whole, south, west}
use Rattle.forms.specs.Encode.{encode}
use Rattle.forms.proofs.Agrees.{agrees}
use Rattle.forms.proofs.Fields.Sign.{plus_consistent, sign_encoded, signs_consistent_lem, signed_decoded}
use Rattle.forms.proofs.Limits.{most}
use Rattle.forms.proofs.Slots.{Each, ◌and◌, none, of_position}

-- a layout has the slots of its kind of position and no other
abbrev pub position_whole : Layout → Bool
position_whole ps = agrees of_position (position_slots (position_kind ps)) (has ps)

-- decoded and encoded again

-- degrees, minutes and hundredths of a number of hundredths
abbrev Arc : ℕ → ℕ → ℕ → ℕ → Type 0
Arc n d m h = (n / 6000 ≡ d) × (n % 6000 / 100 ≡ m) × (n % 100 ≡ h)

arc_encoded : (n d m h : ℕ) → n ≡ in_hundredths d m h → m < 60 → h < 100 → Arc n d m h
arc_encoded n d m h e p q = omega arith

pub position_encoded : (k : PositionKind) (v : Values) (r : Record) → r.position ≡ decode_position k v → arc_in_range v ≡ true → position_consistent k v ≡ true
    → ((f : Slot) → among f of_position ≡ true → among f (position_slots k) ≡ true → v f < most f) → Each (λ (f : Slot). encode r f ≡ v f) (position_slots k)
unfolding decode_position most
position_encoded no_position v r e a t l = none
position_encoded degrees v r e a t l =
    let s = both (sign_consistent (v south) (decode_latitude degrees v)) (sign_consistent (v west) (decode_longitude degrees v)) t in
    let y = ap (encode_latitude degrees) e ∙ nat_abs_signed (negative (v south)) (decode_latitude degrees v) in
    let x = ap (encode_longitude degrees) e ∙ nat_abs_signed (negative (v west)) (decode_longitude degrees v) in
    let lp = l latitude_part refl refl in
    let mp = l longitude_part refl refl in
    (ap encode_south e ∙ sign_encoded (v south) (decode_latitude degrees v) s.0 (l south refl refl))
    and (ap (λ (n : ℕ). n / 10000) y ∙ digits_div (v latitude_degrees) lp)
    and (ap (λ (n : ℕ). n % 10000) y ∙ digits_mod (v latitude_degrees) lp)
    and (ap encode_west e ∙ sign_encoded (v west) (decode_longitude degrees v) s.1 (l west refl refl))
    and (ap (λ (n : ℕ). n / 10000) x ∙ digits_div (v longitude_degrees) mp)
    and (ap (λ (n : ℕ). n % 10000) x ∙ digits_mod (v longitude_degrees) mp)
    and (ap encode_altitude e)
    and none
position_encoded minutes v r e a t l =
    let s = both (sign_consistent (v south) (decode_latitude minutes v)) (sign_consistent (v west) (decode_longitude minutes v)) t in
    let y = ap (encode_latitude minutes) e ∙ nat_abs_signed (negative (v south)) (decode_latitude minutes v) in
    let x = ap (encode_longitude minutes) e ∙ nat_abs_signed (negative (v west)) (decode_longitude minutes v) in
    let m = both (ltb (v latitude_minute) 60) (ltb (v longitude_minute) 60) a in
    let lat = arc_encoded _ _ _ _ y (ltb-true (v latitude_minute) 60 m.0) (l latitude_hundredth refl refl) in
    let lon = arc_encoded _ _ _ _ x (ltb-true (v longitude_minute) 60 m.1) (l longitude_hundredth refl refl) in
    (ap encode_south e ∙ sign_encoded (v south) (decode_latitude minutes v) s.0 (l south refl refl))
    and lat.0 and lat.1 and lat.2
    and (ap encode_west e ∙ sign_encoded (v west) (decode_longitude minutes v) s.1 (l west refl refl))
    and lon.0 and lon.1 and lon.2
    and none

-- encoded and decoded again

degrees_decoded : (n a b : ℕ) → a ≡ n / 10000 → b ≡ n % 10000 → a * 10000 + b ≡ n
degrees_decoded n a b p q = omega arith

arc_decoded : (n d m h : ℕ) → d ≡ n / 6000 → m ≡ n % 6000 / 100 → h ≡ n % 100 → in_hundredths d m h ≡ n
arc_decoded n d m h p q e = omega arith

degrees_again : (x : Option Position) (a b : ℤ) (c : ℕ) → has_position degrees x ≡ true → a ≡ latitude_of x → b ≡ longitude_of x → c ≡ encode_altitude x → Some (PositionIs.Degrees a b c) ≡ x
degrees_again None a b c h p q s = absurd (false≢true h)
degrees_again (Some (PositionIs.Degrees lat lon alt)) a b c h p q s = rw (p, q, s) refl
degrees_again (Some (PositionIs.Minutes lat lon)) a b c h p q s = absurd (false≢true h)

minutes_again : (x : Option Position) (a b : ℤ) → has_position minutes x ≡ true → a ≡ latitude_of x → b ≡ longitude_of x → Some (PositionIs.Minutes a b) ≡ x
minutes_again None a b h p q = absurd (false≢true h)
minutes_again (Some (PositionIs.Degrees lat lon alt)) a b h p q = absurd (false≢true h)
minutes_again (Some (PositionIs.Minutes lat lon)) a b h p q = rw (p, q) refl

module _ (r : Record) (v : Values) where
  -- what the values of the record's own position are
  abbrev pub Positions : PositionKind → Type 0
  Positions k = (f : Slot) → among f of_position ≡ true → among f (position_slots k) ≡ true → v f ≡ encode r f

  -- the numbers and signs of a position of its kind
  record Told (k : PositionKind) : Type 0 where
    pub latitude : decode_latitude k v ≡ nat_abs (latitude_of r.position)
    pub longitude : decode_longitude k v ≡ nat_abs (longitude_of r.position)
    pub southern : v south ≡ encode_south r.position
    pub western : v west ≡ encode_west r.position

  told_degrees : has_position degrees r.position ≡ true → Positions degrees → Told degrees
  told_degrees h e =
      record {
        latitude = simp h at (degrees_decoded (encode_latitude degrees r.position) _ _ (e latitude_degrees refl refl) (e latitude_part refl refl));
        longitude = simp h at (degrees_decoded (encode_longitude degrees r.position) _ _ (e longitude_degrees refl refl) (e longitude_part refl refl));
        southern = e south refl refl;
        western = e west refl refl;
      }

  told_minutes : has_position minutes r.position ≡ true → Positions minutes → Told minutes
  told_minutes h e =
      record {
        latitude = simp h at (arc_decoded (encode_latitude minutes r.position) _ _ _ (e latitude_whole refl refl) (e latitude_minute refl refl) (e latitude_hundredth refl refl));
        longitude = simp h at (arc_decoded (encode_longitude minutes r.position) _ _ _ (e longitude_whole refl refl) (e longitude_minute refl refl) (e longitude_hundredth refl refl));
        southern = e south refl refl;
        western = e west refl refl;
      }

  told_signed : (k : PositionKind) → Told k → (signed_latitude k v ≡ latitude_of r.position) × (signed_longitude k v ≡ longitude_of r.position)
  told_signed k t = (signed_decoded (latitude_of r.position) _ _ t.southern t.latitude, signed_decoded (longitude_of r.position) _ _ t.western t.longitude)

  pub position_decoded : (k : PositionKind) → has_position k r.position ≡ true → Positions k → decode_position k v ≡ carried_position k r.position
  unfolding decode_position carried_position
  position_decoded no_position h e = refl
  position_decoded degrees h e =
      let t = told_signed degrees (told_degrees h e) in
      degrees_again r.position _ _ _ h t.0 t.1 (e altitude refl refl)
  position_decoded minutes h e =
      let t = told_signed minutes (told_minutes h e) in
      minutes_again r.position _ _ h t.0 t.1

  -- its signs agree

  told_consistent : (k : PositionKind) → Told k → position_consistent k v ≡ true
  told_consistent k t =
      both_hold _ _ (signs_consistent_lem (latitude_of r.position) _ _ t.southern t.latitude) (signs_consistent_lem (longitude_of r.position) _ _ t.western t.longitude)

  pub position_consistent_lem : (k : PositionKind) → has_position k r.position ≡ true → Positions k
      → ((f : Slot) → among f of_position ≡ true → among f (position_slots k) ≡ false → v f ≡ 0) → position_consistent k v ≡ true
  position_consistent_lem no_position h e z = both_hold _ _ (plus_consistent (v south) _ (z south refl refl)) (plus_consistent (v west) _ (z west refl refl))
  position_consistent_lem degrees h e z = told_consistent degrees (told_degrees h e)
  position_consistent_lem minutes h e z = told_consistent minutes (told_minutes h e)

-- what is decoded is there and is carried
pub position_carried : (k : PositionKind) (v : Values) → (has_position k (decode_position k v) ≡ true) × (carried_position k (decode_position k v) ≡ decode_position k v)
unfolding decode_position carried_position
position_carried no_position v = (refl, refl)
position_carried degrees v = (refl, refl)
position_carried minutes v = (refl, refl)
