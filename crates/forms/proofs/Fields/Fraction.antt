-- The fraction: thousandths, ten-millionths or hundredths, each of them a number of its own slot.
use Rattle.std.specs.Prelude.{Option, None, Some}
use Rattle.cond.proofs.Kit.{◌<◌, ◌≡◌, ap, arith, Bool, false≢true, ltb-true, refl, true}
use Rattle.record.specs.declared.Fraction.{Fraction}
use Rattle.record.specs.declared.Fraction.TheVariants as FractionIs
use Rattle.record.specs.declared.Record.{Record}
use Rattle.record.specs.Record.{fraction_in_range}
use Rattle.forms.specs.Fields.Fraction.{FractionKind, decode_fraction, fraction_kind, fraction_slots, has_fraction, carried_fraction, no_fraction}
use Rattle.forms.specs.Fields.Fraction.{encode_hundredths, encode_ten_millionths, encode_thousandths, hundredths, ten_millionths, thousandths}
use Rattle.forms.specs.Places.{Layout, has}
use Rattle.forms.specs.Slots.{Slot, Values, among, hundredth, ten_millionth, thousandth}
use Rattle.forms.specs.Encode.{encode}
use Rattle.forms.proofs.Agrees.{agrees}
use Rattle.forms.proofs.Limits.{bound}
use Rattle.forms.proofs.Slots.{Each, ◌and◌, none, of_fraction}

-- a layout has the slots of its kind of fraction and no other
abbrev pub fraction_whole : Layout → Bool
fraction_whole ps = agrees of_fraction (fraction_slots (fraction_kind ps)) (has ps)

-- decoded and encoded again
pub fraction_encoded : (k : FractionKind) (v : Values) (r : Record) → r.fraction ≡ decode_fraction k v → Each (λ (f : Slot). encode r f ≡ v f) (fraction_slots k)
unfolding decode_fraction
fraction_encoded no_fraction v r e = none
fraction_encoded thousandths v r e = ap encode_thousandths e and none
fraction_encoded ten_millionths v r e = ap encode_ten_millionths e and none
fraction_encoded hundredths v r e = ap encode_hundredths e and none

-- encoded and decoded again

thousandths_again : (x : Option Fraction) → has_fraction thousandths x ≡ true → Some (FractionIs.Thousandths (encode_thousandths x)) ≡ x
thousandths_again None h = absurd (false≢true h)
thousandths_again (Some (FractionIs.Thousandths n)) h = refl
thousandths_again (Some (FractionIs.TenMillionths n)) h = absurd (false≢true h)
thousandths_again (Some (FractionIs.Hundredths n)) h = absurd (false≢true h)

ten_millionths_again : (x : Option Fraction) → has_fraction ten_millionths x ≡ true → Some (FractionIs.TenMillionths (encode_ten_millionths x)) ≡ x
ten_millionths_again None h = absurd (false≢true h)
ten_millionths_again (Some (FractionIs.Thousandths n)) h = absurd (false≢true h)
ten_millionths_again (Some (FractionIs.TenMillionths n)) h = refl
ten_millionths_again (Some (FractionIs.Hundredths n)) h = absurd (false≢true h)

hundredths_again : (x : Option Fraction) → has_fraction hundredths x ≡ true → Some (FractionIs.Hundredths (encode_hundredths x)) ≡ x
hundredths_again None h = absurd (false≢true h)
hundredths_again (Some (FractionIs.Thousandths n)) h = absurd (false≢true h)
hundredths_again (Some (FractionIs.TenMillionths n)) h = absurd (false≢true h)
hundredths_again (Some (FractionIs.Hundredths n)) h = refl

pub fraction_decoded : (k : FractionKind) (r : Record) (v : Values) → has_fraction k r.fraction ≡ true
    → ((f : Slot) → among f of_fraction ≡ true → among f (fraction_slots k) ≡ true → v f ≡ encode r f) → decode_fraction k v ≡ carried_fraction k r.fraction
unfolding decode_fraction carried_fraction
fraction_decoded no_fraction r v h e = refl
fraction_decoded thousandths r v h e = rw (e thousandth refl refl) (thousandths_again r.fraction h)
fraction_decoded ten_millionths r v h e = rw (e ten_millionth refl refl) (ten_millionths_again r.fraction h)
fraction_decoded hundredths r v h e = rw (e hundredth refl refl) (hundredths_again r.fraction h)

-- what is decoded is there and is carried
pub fraction_carried : (k : FractionKind) (v : Values) → (has_fraction k (decode_fraction k v) ≡ true) × (carried_fraction k (decode_fraction k v) ≡ decode_fraction k v)
unfolding decode_fraction carried_fraction
fraction_carried no_fraction v = (refl, refl)
fraction_carried thousandths v = (refl, refl)
fraction_carried ten_millionths v = (refl, refl)
fraction_carried hundredths v = (refl, refl)

-- ranges

fraction_lt : (x : Option Fraction) → fraction_in_range x ≡ true → (encode_thousandths x < 1000) × (encode_ten_millionths x < 10000000) × (encode_hundredths x < 100)
unfolding fraction_in_range
fraction_lt None e = omega arith
fraction_lt (Some (FractionIs.Thousandths n)) e = omega (arith, ltb-true n 1000 e)
fraction_lt (Some (FractionIs.TenMillionths n)) e = omega (arith, ltb-true n 10000000 e)
fraction_lt (Some (FractionIs.Hundredths n)) e = omega (arith, ltb-true n 100 e)

pub fraction_lts : (r : Record) → fraction_in_range r.fraction ≡ true → Each (λ (f : Slot). encode r f < bound f) of_fraction
unfolding bound
fraction_lts r h =
    let t = fraction_lt r.fraction h in
    t.0 and t.1 and t.2 and none

pub fraction_stays : (k : FractionKind) (x : Option Fraction) → fraction_in_range x ≡ true → fraction_in_range (carried_fraction k x) ≡ true
unfolding fraction_in_range carried_fraction
fraction_stays no_fraction x h = refl
fraction_stays thousandths x h = h
fraction_stays ten_millionths x h = h
fraction_stays hundredths x h = h
