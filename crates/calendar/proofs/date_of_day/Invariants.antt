-- The loop's invariant: the day is past the months before this one.
use Rattle.cond.proofs.Kit.{◌-◌, ◌<◌, ◌≤◌}
use Rattle.calendar.specs.Calendar.{days_through}
use Rattle.calendar.proofs.date_of_day.Given as goal

abbrev pub invariant-loop-month : goal.invariant-loop-month
invariant-loop-month l = (1 ≤ l.month) × (days_through l.year (l.month - 1) < l.day)
