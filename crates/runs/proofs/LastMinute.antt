-- No minute follows the calendar's last: no second of the calendar has a later one.
use Rattle.cond.proofs.Kit.{◌&&◌, ◌+◌, ◌≡◌, ◌≤◌, ◌⊎◌, arith, eqb, eqb-true, inl, inr, leb, true}
use Rattle.cond.proofs.Tests.{both, either}
use Rattle.calendar.proofs.Last.{number_last}
use Rattle.runs.specs.declared.second.Second.{Second}
use Rattle.runs.specs.Seconds.{in_minute, is_next, is_second, last_minute, minute_of, over_minute, same_minute}
use Rattle.runs.proofs.Possible.{same_minute_of}
use Rattle.runs.proofs.Seconds.{second_range}

minute_last : (s : Second) → is_second s ≡ true → minute_of s ≤ minute_of last_minute
unfolding minute_of
minute_last s h = let a = second_range s h in omega (arith, number_last s.yy s.month s.day a.date)

stays : (a b : Second) → minute_of a ≡ minute_of last_minute → is_second b ≡ true → (in_minute a b ≡ true) ⊎ (over_minute a b ≡ true) → same_minute a b ≡ true
unfolding in_minute over_minute
stays a b e h (inl k) = (both (same_minute a b) _ k).0
stays a b e h (inr k) = absurd (omega (arith, minute_last b h, eqb-true (minute_of b) (minute_of a + 1) (both (leb 59 a.second && eqb b.second 0) _ k).1))

pub last_minute_lem : (a b : Second) → same_minute a last_minute ≡ true → is_next a b ≡ true → same_minute a b ≡ true
unfolding is_next
last_minute_lem a b e h =
    let k = both (is_second a && is_second b) _ h in
    stays a b (same_minute_of a last_minute e) (both (is_second a) (is_second b) k.0).1 (either (in_minute a b) (over_minute a b) k.1)
