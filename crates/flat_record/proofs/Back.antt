-- A record's numbers are a record's, and give it back; the magnitudes of a good record fit.
use Rattle.std.specs.Prelude.{Option, None, Some, Ok, ℤ}
use Rattle.cond.proofs.Kit.{◌&&◌, ◌≡◌, ◌≤◌, arith, le-leb, leb, leb-true, nat_abs, refl, true, ℕ}
use Rattle.cond.proofs.Tests.{both, both_hold}
use Rattle.record.specs.declared.Position.{Position}
use Rattle.record.specs.declared.Position.TheVariants as PositionIs
use Rattle.record.specs.declared.Record.{Record}
use Rattle.record.specs.Record.{is_good, offset_in_range, position_in_range}
use Rattle.forms.proofs.Bounds.{good}
use Rattle.forms.specs.Fields.Offset.{encode_minutes}
use Rattle.forms.specs.Fields.Position.{latitude_of, longitude_of}
use Rattle.flat_record.specs.Back.{Back, magnitudes_fit}
use Rattle.flat_record.specs.Decode.{is_flat, record_at, record_of}
use Rattle.flat_record.specs.Encode.{head_of, numbers_of, tail_of}
use Rattle.flat_record.proofs.Fields.{channel_back, date_back, flag_back, fraction_back, offset_back, position_back}

module _ (r : Record) (o : leb (encode_minutes r.offset) 2147483647 ≡ true)
    (a : leb (nat_abs (latitude_of r.position)) 2147483647 ≡ true) (b : leb (nat_abs (longitude_of r.position)) 2147483647 ≡ true) where
  flat : is_flat (numbers_of r) ≡ true
  unfolding is_flat head_of tail_of
  flat =
      rw ((date_back r.date).known, (fraction_back r.fraction).known, (channel_back r.channel).known)
      (rw ((flag_back r.sync).known, (flag_back r.fix).known, (flag_back r.utc).known, (flag_back r.summer).known)
      (rw ((flag_back r.change).known, (flag_back r.leap).known, (flag_back r.dsp).known, (flag_back r.lsp).known)
      (rw ((offset_back r.offset o).0, (position_back r.position a b).0))))

  same : record_at (numbers_of r) ≡ r
  unfolding record_at head_of tail_of
  same =
      rw ((date_back r.date).same, (fraction_back r.fraction).same, (channel_back r.channel).same)
      (rw ((flag_back r.sync).same, (flag_back r.fix).same, (flag_back r.utc).same, (flag_back r.summer).same)
      (rw ((flag_back r.change).same, (flag_back r.leap).same, (flag_back r.dsp).same, (flag_back r.lsp).same)
      (rw ((offset_back r.offset o).1, (position_back r.position a b).1))))

  whole : record_of (numbers_of r) ≡ Ok r
  unfolding record_of head_of tail_of
  whole = rw (flat, same)

given_back : (r : Record) → magnitudes_fit r ≡ true → record_of (numbers_of r) ≡ Ok r
unfolding magnitudes_fit
given_back r h =
    let a = leb (nat_abs (latitude_of r.position)) 2147483647 in
    let b = leb (nat_abs (longitude_of r.position)) 2147483647 in
    let p = both (leb (encode_minutes r.offset) 2147483647) (a && b) h in
    let q = both a b p.1 in
    whole r p.0 q.0 q.1

-- what is in range fits

fits : (n most : ℕ) → leb n most ≡ true → most ≤ 2147483647 → leb n 2147483647 ≡ true
fits n most h l = le-leb n 2147483647 (omega (arith, leb-true n most h))

offset_fits_lem : (o : Option ℤ) → offset_in_range o ≡ true → leb (encode_minutes o) 2147483647 ≡ true
unfolding offset_in_range
offset_fits_lem None h = refl
offset_fits_lem (Some z) h = fits (nat_abs z) 840 h (omega arith)

position_fits_lem : (p : Option Position) → position_in_range p ≡ true → (leb (nat_abs (latitude_of p)) 2147483647 && leb (nat_abs (longitude_of p)) 2147483647) ≡ true
unfolding position_in_range
position_fits_lem None h = refl
position_fits_lem (Some (PositionIs.Degrees lat lon alt)) h =
    let p = both (leb (nat_abs lat) 900000) (leb (nat_abs lon) 1800000 && leb alt 9999) h in
    let q = both (leb (nat_abs lon) 1800000) (leb alt 9999) p.1 in
    both_hold _ _ (fits (nat_abs lat) 900000 p.0 (omega arith)) (fits (nat_abs lon) 1800000 q.0 (omega arith))
position_fits_lem (Some (PositionIs.Minutes lat lon)) h =
    let p = both (leb (nat_abs lat) 540000) (leb (nat_abs lon) 1080000) h in
    both_hold _ _ (fits (nat_abs lat) 540000 p.0 (omega arith)) (fits (nat_abs lon) 1080000 p.1 (omega arith))

good_fits : (r : Record) → is_good r ≡ true → magnitudes_fit r ≡ true
unfolding magnitudes_fit
good_fits r h =
    let g = good r h in
    both_hold _ _ (offset_fits_lem r.offset g.offset) (position_fits_lem r.position g.position)

pub back : Back
back = record { back = given_back; good = λ r h. given_back r (good_fits r h) }
