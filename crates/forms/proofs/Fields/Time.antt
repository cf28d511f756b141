-- The time, and what follows from it.
use Rattle.cond.proofs.Kit.{◌<◌, ◌≡◌, arith, Bool, eq-eqb, eqb, eqb-true, false, false≢true, leb, leb-true, lit<, ltb, ltb-true, refl, true, ℕ}
use Rattle.cond.specs.Pick.{pick}
use Rattle.cond.proofs.Tests.{both}
use Rattle.calendar.proofs.Ranges.{weekday_range}
use Rattle.record.specs.Record.{time_in_range}
use Rattle.record.specs.declared.Record.{Record}
use Rattle.forms.specs.Fields.Date.{encode_day, encode_month, encode_year}
use Rattle.forms.specs.Fields.Time.{deletion_in_range, follows}
use Rattle.forms.specs.Slots.{Slot, day_seconds, weekday}
use Rattle.forms.specs.Encode.{encode}
use Rattle.forms.proofs.Fields.Flag.{one_lt}
use Rattle.forms.proofs.Limits.{bound}
use Rattle.forms.proofs.Slots.{Each, ◌and◌, derived, none, of_time}

-- what follows from other slots, where the layout tells it

pub follows_holds : (k : Bool) (n m : ℕ) → (k ≡ true → n ≡ m) → follows k n m ≡ true
follows_holds false n m e = refl
follows_holds true n m e = eq-eqb n m (e refl)

pub followed : (k : Bool) (n m : ℕ) → follows k n m ≡ true → k ≡ true → n ≡ m
followed false n m h e = absurd (false≢true e)
followed true n m h e = eqb-true n m h

time_lt : (h m s : ℕ) → time_in_range h m s ≡ true → (h < 24) × (m < 60) × (s < 61)
unfolding time_in_range
time_lt h m s e =
    let a = both (ltb h 24) _ e in
    let b = both (ltb m 60) (leb s 60) a.1 in
    omega (arith, ltb-true h 24 a.0, ltb-true m 60 b.0, leb-true s 60 b.1)

module _ (r : Record) (h : time_in_range r.hour r.minute r.second ≡ true) where
  pub time_lts : Each (λ (f : Slot). encode r f < bound f) of_time
  unfolding bound
  time_lts =
      let t = time_lt r.hour r.minute r.second h in
      t.0 and t.1 and t.2 and none

  pub derived_lts : Each (λ (f : Slot). encode r f < bound f) derived
  unfolding bound
  derived_lts =
      let t = time_lt r.hour r.minute r.second h in
      let w = weekday_range (encode_year r.date) (encode_month r.date) (encode_day r.date) in
      let week : encode r weekday < 8 = omega arith in
      let seconds : encode r day_seconds < 86401 = omega arith in
      week and one_lt (eqb r.second 60) and lit< tt and seconds and none

-- a deletion that a layout tells or not
pub deletion_holds : (b : Bool) (n : ℕ) → n ≡ pick b 0 0 → deletion_in_range n ≡ true
deletion_holds true n e = rw e refl
deletion_holds false n e = rw e refl
