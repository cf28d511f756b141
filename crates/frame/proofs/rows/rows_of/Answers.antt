-- Each row is a call.
use Rattle.fields.proofs.Dates.{ordinal_in_range}
use Rattle.cond.proofs.Kit.{arith, ◌∙◌}
use Rattle.frame.specs.Tens.{ten_rows}
use Rattle.forms.specs.Slots.{hour, minute, second}
use Rattle.forms.proofs.Bounds.{encode_lt, good}
use Rattle.forms.proofs.Limits.{bound}
use Rattle.frame.proofs.rows.rows_of.Goals as goal

pub seconds_of_day-seconds-requires : goal.seconds_of_day-seconds-requires
unfolding bound
seconds_of_day-seconds-requires c = let t = encode_lt c.args.told (good c.args.told c.requires) in
    omega (arith, t hour, t minute, t second)

pub returns : goal.returns
unfolding ten_rows
returns c = simp (c.with_pair.ensures, c.with_pair-2.ensures)
    (simp (c.with_pair-3.ensures, c.with_pair-4.ensures, c.with_bits.ensures)
    (simp (c.with_pair-5.ensures, c.zone_row.ensures)
    (simp (c.quality_row.ensures, c.with_bits-2.ensures, c.with_bits-3.ensures)
    (simp (c.ordinal_of-day.ensures ∙ ordinal_in_range c.args.told.date (good c.args.told c.requires).date, c.seconds_of_day-seconds.ensures, c.year_of.ensures)))))
