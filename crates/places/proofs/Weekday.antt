-- A full date in range exists, so that a record that a writer stores has a weekday and a day of the year.
use Rattle.std.specs.Prelude.{Option, None, Some}
use Rattle.cond.proofs.Kit.{◌∙◌, ◌≡◌, ap, false≢true, sym, true, ℕ}
use Rattle.cond.proofs.Tests.{both}
use Rattle.record.specs.declared.Date.{Date}
use Rattle.record.specs.declared.Date.TheVariants as DateIs
use Rattle.record.specs.declared.Record.{Record}
use Rattle.record.specs.Record.{date_in_range, in_range, date_time_in_range, rest_in_range, time_in_range}
use Rattle.forms.specs.Fields.Date.{DateKind, encode_ordinal, full_date, has_date}
use Rattle.forms.specs.Form.{Form, carries}
use Rattle.forms.proofs.Bounds.{good}
use Rattle.forms.proofs.Required.{all_of}
use Rattle.places.specs.Admitted.{Storable}
use Rattle.fields.specs.Dates.{ordinal_of}
use Rattle.fields.proofs.Dates.{number_of, ordinal_in_range}
use Rattle.places.specs.Weekday.{encode_weekday, exists, weekday_on}

in_range_exists : (d : Option Date) → has_date full_date d ≡ true → date_in_range d ≡ true → exists d ≡ true
unfolding date_in_range
in_range_exists None h i = absurd (false≢true h)
in_range_exists (Some (DateIs.Full y m d)) h i = i
in_range_exists (Some (DateIs.DayOfYear n)) h i = absurd (false≢true h)

pub date_exists : (r : Record) → has_date full_date r.date ≡ true → in_range r ≡ true → exists r.date ≡ true
unfolding in_range
date_exists r h i =
    let a = both (date_time_in_range r) (rest_in_range r) i in
    in_range_exists r.date h (both (time_in_range r.hour r.minute r.second) (date_in_range r.date) a.0).1

module _ (d : Form) (r : Record) (n : ℕ) (s : Storable d r n) where
  pub stored_ordinal : ordinal_of r.date ≡ encode_ordinal r.date
  stored_ordinal = ordinal_in_range r.date (good r s.good).date

  pub stored_weekday : (carries d).date ≡ full_date → weekday_on r.date ≡ encode_weekday r.date
  stored_weekday e =
      let h = sym (ap (λ (k : DateKind). has_date k r.date) e) ∙ (all_of (carries d) r s.carried).date in
      number_of (exists r.date) (encode_weekday r.date) (in_range_exists r.date h (good r s.good).date)
