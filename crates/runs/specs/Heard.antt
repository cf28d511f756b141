-- The second that a record tells.
use Rattle.std.specs.Prelude.{ℕ, Option, Some, None}
use Rattle.cond.specs.Pick.{pick}
use Rattle.record.specs.Record.{is_good}
use Rattle.record.specs.declared.Date.{Date}
use Rattle.record.specs.declared.Date.TheVariants as DateIs
use Rattle.record.specs.declared.Record.{Record}
use Rattle.runs.specs.declared.second.Second.{Second}

-- the second of a date and a time: "a full date" tells one, and neither a day of year nor no date does
abbrev pub second_on : Option Date → ℕ → ℕ → ℕ → Option Second
second_on None h m s = None
second_on (Some (DateIs.Full y k d)) h m s = Some (record { yy = y; month = k; day = d; hour = h; minute = m; second = s })
second_on (Some (DateIs.DayOfYear n)) h m s = None

-- "14 no full date or a bad record" where there is none
unfoldable pub second_in : Record → Option Second
second_in r = pick (is_good r) (second_on r.date r.hour r.minute r.second) None
