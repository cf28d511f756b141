-- Inner: the last two tests of a reader, on the record that a string decodes to.
use Rattle.record.specs.declared.refusal.Refusal.{Refusal}
use Rattle.std.specs.Prelude.{Bool, true, ◌&&◌, ℕ, Result, Ok, Err}
use Rattle.cond.specs.Pick.{pick}
use Rattle.record.specs.declared.refusal.Refusal.TheVariants as refusal
use Rattle.record.specs.declared.Record.{Record}
use Rattle.record.specs.Record.{in_range}
use Rattle.forms.specs.Fields.Date.{weekday_in_range}
use Rattle.places.specs.Weekday.{falls_on}

-- refusal 4 where a number is outside its range, then 5 where parts disagree
unfoldable pub verdict : Bool → Bool → Record → Result Record Refusal
verdict ranged consistent r =
    pick ranged (pick consistent (Ok r) (Err refusal.Disagreement)) (Err refusal.OutOfRange)

-- of a string that tells a weekday too; the tests of what else it tells beside its record are given
abbrev pub verdict_on : Record → ℕ → Bool → Bool → Result Record Refusal
verdict_on r n ranged consistent =
    verdict (in_range r && (weekday_in_range true n && ranged)) (falls_on r.date n && consistent) r
