-- The numbers of a second stay in their ranges, and what the rule of the next second asks.
use Rattle.cond.proofs.Kit.{◌<◌, ◌≡◌, ◌≤◌, arith, leb-true, ltb-true, true}
use Rattle.cond.proofs.Tests.{both}
use Rattle.calendar.specs.Calendar.{day_number, is_date}
use Rattle.calendar.proofs.Ranges.{date_range, number_lt}
use Rattle.record.specs.Record.{time_in_range}
use Rattle.runs.specs.declared.second.Second.{Second}
use Rattle.runs.specs.Seconds.{is_second, minute_of}

pub record SecondRange (s : Second) : Type 0 where
  pub hours : s.hour < 24
  pub minutes : s.minute < 60
  pub seconds : s.second ≤ 60
  pub date : is_date s.yy s.month s.day ≡ true
  pub days : day_number s.yy s.month s.day < 37232

pub second_range : (s : Second) → is_second s ≡ true → SecondRange s
unfolding is_second time_in_range
second_range s h =
    let a = both _ _ h in
    let t = both _ _ a.0 in
    let m = both _ _ t.1 in
    record {
      hours = ltb-true _ _ t.0;
      minutes = ltb-true _ _ m.0;
      seconds = leb-true _ _ m.1;
      date = a.1;
      days = number_lt _ _ _ (date_range _ _ _ a.1);
    }

pub hour_lt : (s : Second) → is_second s ≡ true → s.hour < 24
hour_lt s h = (second_range s h).hours

pub minutes_lt : (s : Second) → is_second s ≡ true → s.minute < 60
minutes_lt s h = (second_range s h).minutes

pub second_le : (s : Second) → is_second s ≡ true → s.second ≤ 60
second_le s h = (second_range s h).seconds

pub days_lt : (s : Second) → is_second s ≡ true → day_number s.yy s.month s.day < 37232
days_lt s h = (second_range s h).days

pub dated : (s : Second) → is_second s ≡ true → is_date s.yy s.month s.day ≡ true
dated s h = (second_range s h).date

pub minute_lt : (s : Second) → is_second s ≡ true → minute_of s < 53614080
unfolding minute_of
minute_lt s h = let a = second_range s h in omega arith
