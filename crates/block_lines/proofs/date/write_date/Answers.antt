-- Each case of the field has its own variant, which the callee stores.
use Rattle.std.specs.Prelude.{Some}
use Rattle.cond.proofs.Kit.{◌≡◌, ap, arith, rules}
use Rattle.record.specs.declared.Date.TheVariants as DateIs
use Rattle.forms.specs.Encode.{encode}
use Rattle.forms.specs.Fields.Date.{encode_ordinal}
use Rattle.forms.specs.Places.{layout_width}
use Rattle.block_lines.proofs.Laid.{within}
use Rattle.block_lines.proofs.date.write_date.Goals as goal

pub returns-in-None : goal.returns-in-None
returns-in-None c = simp c.in-None.is (within _ _ _ _ _ _ (c.put_word.ensures (encode c.args.r)) (unfold layout_width in omega arith))

pub returns-in-Some-Full : goal.returns-in-Some-Full
returns-in-Some-Full c = let d = c.in-Some-Full in
    let q : c.args.r.date ≡ Some (DateIs.Full d.field-0-0 d.field-0-1 d.field-0-2) = search rules in
    simp q (within _ _ _ _ _ _ c.put_full_date.ensures (unfold layout_width in omega arith))

pub returns-in-Some-DayOfYear : goal.returns-in-Some-DayOfYear
returns-in-Some-DayOfYear c = let q : c.args.r.date ≡ Some (DateIs.DayOfYear c.in-Some-DayOfYear.n) = search rules in
    simp q (within _ _ _ _ _ _ (c.put_day_of_year.ensures (encode c.args.r) (ap encode_ordinal q)) (unfold layout_width in omega arith))
