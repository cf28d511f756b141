-- The arms are the cases of the answer of the calendar.
use Rattle.cond.proofs.Kit.{◌∙◌, sym, refl}
use Rattle.spelling.specs.Bytes.{groups_limit, groups_width}
use Rattle.forms.specs.Fields.Date.{decode_date}
use Rattle.forms.specs.Places.{values}
use Rattle.frame.proofs.decoding.date_at.Goals as goal

pub returns-in-Some : goal.returns-in-Some
unfolding values groups_limit groups_width decode_date
returns-in-Some c = simp (← c.pair_number-year.ensures.0 0 refl, ← c.day_of_year.ensures, sym c.date_of_day-found.ensures ∙ c.in-Some.is)

pub returns-in-None : goal.returns-in-None
unfolding values groups_limit groups_width decode_date
returns-in-None c = simp (← c.pair_number-year.ensures.0 0 refl, ← c.day_of_year.ensures, sym c.date_of_day-found.ensures ∙ c.in-None.is)
