-- The date: by year, month and day, by year and day of year, or by day of year; and the weekday's range.
use Rattle.std.specs.Prelude.{Option, None, Some}
use Rattle.cond.proofs.Kit.{◌<◌, ◌∙◌, ◌≡◌, ap, arith, Bool, false, false≢true, le-leb, leb, leb-true, refl, true, ℕ}
use Rattle.cond.proofs.Tests.{both}
use Rattle.calendar.specs.Answers.{date_of_day}
use Rattle.calendar.specs.Calendar.{is_date, weekday_of}
use Rattle.calendar.specs.declared.MonthDay.{MonthDay}
use Rattle.calendar.proofs.DayOfYear.{day_found, found_day}
use Rattle.calendar.proofs.Ranges.{date_range, day_lt, ordinal_range, weekday_range}
use Rattle.record.specs.declared.Date.{Date}
use Rattle.record.specs.declared.Date.TheVariants as DateIs
use Rattle.record.specs.declared.Record.{Record}
use Rattle.record.specs.Record.{date_in_range}
use Rattle.forms.specs.Fields.Date.{DateKind, decode_date, date_kind, date_on, date_slots, encode_day, full_date, has_date, carried_date, encode_month, no_date}
use Rattle.forms.specs.Fields.Date.{ordinal_date, encode_ordinal, weekday_in_range, year_and_day, encode_year}
use Rattle.forms.specs.Places.{Layout, has}
use Rattle.forms.specs.Slots.{Slot, Values, among, day, month, ordinal, year}
use Rattle.forms.specs.Encode.{encode}
use Rattle.forms.proofs.Agrees.{agreed, agrees}
use Rattle.forms.proofs.Limits.{bound}
use Rattle.forms.proofs.Slots.{Each, ◌and◌, none, of_date}

-- a layout has the slots of its kind of date and no other
abbrev pub date_whole : Layout → Bool
date_whole ps = agrees of_date (date_slots (date_kind ps)) (has ps)

-- a layout that tells the month tells the year and the day
pub full_slots : (ps : Layout) → date_whole ps ≡ true → has ps month ≡ true → (has ps year ≡ true) × (has ps day ≡ true)
full_slots ps c m =
    let there = agreed of_date (date_slots (date_kind ps)) (has ps) c in
    (there year refl ∙ rw m refl, there day refl ∙ rw m refl)

-- decoded and encoded again

year_on : (y : ℕ) (q : Option MonthDay) → encode_year (date_on y q) ≡ y
year_on y (Some d) = refl
year_on y None = refl

-- a date found by its day of year is on that day
ordinal_on : (y n : ℕ) (q : Option MonthDay) → date_of_day y n ≡ q → date_in_range (date_on y q) ≡ true → encode_ordinal (date_on y q) ≡ n
unfolding date_in_range
ordinal_on y n (Some d) e h = (found_day y n d.month d.day e).1
ordinal_on y n None e h = absurd (false≢true (unfold is_date in h))

pub date_encoded : (k : DateKind) (v : Values) (r : Record) → r.date ≡ decode_date k v → date_in_range (decode_date k v) ≡ true
    → Each (λ (f : Slot). encode r f ≡ v f) (date_slots k)
unfolding decode_date
date_encoded no_date v r e g = none
date_encoded full_date v r e g = ap encode_year e and ap encode_month e and ap encode_day e and none
date_encoded year_and_day v r e g =
    (ap encode_year e ∙ year_on (v year) (date_of_day (v year) (v ordinal)))
    and (ap encode_ordinal e ∙ ordinal_on (v year) (v ordinal) (date_of_day (v year) (v ordinal)) refl g)
    and none
date_encoded ordinal_date v r e g = ap encode_ordinal e and none

-- encoded and decoded again

full_again : (x : Option Date) → has_date full_date x ≡ true → Some (DateIs.Full (encode_year x) (encode_month x) (encode_day x)) ≡ x
full_again None h = absurd (false≢true h)
full_again (Some (DateIs.Full y m d)) h = refl
full_again (Some (DateIs.DayOfYear n)) h = absurd (false≢true h)

found_again : (x : Option Date) → has_date year_and_day x ≡ true → date_in_range x ≡ true → date_on (encode_year x) (date_of_day (encode_year x) (encode_ordinal x)) ≡ x
unfolding date_in_range
found_again None h g = absurd (false≢true h)
found_again (Some (DateIs.Full y m d)) h g = rw (day_found y m d g)
found_again (Some (DateIs.DayOfYear n)) h g = absurd (false≢true h)

ordinal_again : (x : Option Date) → has_date ordinal_date x ≡ true → Some (DateIs.DayOfYear (encode_ordinal x)) ≡ carried_date ordinal_date x
unfolding carried_date
ordinal_again None h = absurd (false≢true h)
ordinal_again (Some (DateIs.Full y m d)) h = refl
ordinal_again (Some (DateIs.DayOfYear n)) h = refl

pub date_decoded : (k : DateKind) (r : Record) (v : Values) → has_date k r.date ≡ true → date_in_range r.date ≡ true
    → ((f : Slot) → among f of_date ≡ true → among f (date_slots k) ≡ true → v f ≡ encode r f) → decode_date k v ≡ carried_date k r.date
unfolding decode_date carried_date
date_decoded no_date r v h g e = refl
date_decoded full_date r v h g e = rw (e year refl refl, e month refl refl, e day refl refl) (full_again r.date h)
date_decoded year_and_day r v h g e = rw (e year refl refl, e ordinal refl refl) (found_again r.date h g)
date_decoded ordinal_date r v h g e = rw (e ordinal refl refl) (ordinal_again r.date h)

-- what is decoded is there and is carried

on_carried : (y : ℕ) (q : Option MonthDay) → (has_date year_and_day (date_on y q) ≡ true) × (carried_date year_and_day (date_on y q) ≡ date_on y q)
unfolding carried_date
on_carried y (Some d) = (refl, refl)
on_carried y None = (refl, refl)

pub date_carried : (k : DateKind) (v : Values) → (has_date k (decode_date k v) ≡ true) × (carried_date k (decode_date k v) ≡ decode_date k v)
unfolding decode_date carried_date
date_carried no_date v = (refl, refl)
date_carried full_date v = (refl, refl)
date_carried year_and_day v = on_carried (v year) (date_of_day (v year) (v ordinal))
date_carried ordinal_date v = (refl, refl)

-- ranges

date_lt : (x : Option Date) → date_in_range x ≡ true → (encode_year x < 100) × (encode_month x < 13) × (encode_day x < 32) × (encode_ordinal x < 367)
unfolding date_in_range
date_lt None e = omega arith
date_lt (Some (DateIs.Full y m d)) e =
    let c = date_range y m d e in
    omega (arith, day_lt y m d c, ordinal_range y m d c)
date_lt (Some (DateIs.DayOfYear n)) e = omega (arith, leb-true n 366 (both (leb 1 n) (leb n 366) e).1)

pub date_lts : (r : Record) → date_in_range r.date ≡ true → Each (λ (f : Slot). encode r f < bound f) of_date
unfolding bound
date_lts r h =
    let t = date_lt r.date h in
    t.0 and t.1 and t.2 and t.3 and none

pub date_stays : (k : DateKind) (x : Option Date) → date_in_range x ≡ true → date_in_range (carried_date k x) ≡ true
unfolding date_in_range carried_date
date_stays no_date x h = refl
date_stays full_date x h = h
date_stays year_and_day x h = h
date_stays ordinal_date None h = refl
date_stays ordinal_date (Some (DateIs.Full y m d)) h =
    let c = ordinal_range y m d (date_range y m d h) in
    simp (le-leb 1 _ c.0, le-leb _ 366 c.1)
date_stays ordinal_date (Some (DateIs.DayOfYear n)) h = h

pub weekday_holds : (k : Bool) (n y m d : ℕ) → (k ≡ true → n ≡ weekday_of y m d) → weekday_in_range k n ≡ true
unfolding weekday_in_range
weekday_holds false n y m d e = refl
weekday_holds true n y m d e =
    let c = weekday_range y m d in
    simp (e refl, le-leb 1 (weekday_of y m d) c.0, le-leb (weekday_of y m d) 7 c.1)
