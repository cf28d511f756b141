-- A record is written; numbers that are none are refused behind an unknown form.
use Rattle.cond.proofs.Kit.{◌∙◌, sym}
use Rattle.lindenscoop.proofs.Written.{no_form, no_record, wrote}
use Rattle.lindenscoop.proofs.telegrams.write_numbers.Goals as goal

pub returns-in-Ok : goal.returns-in-Ok
returns-in-Ok c = let a = c.args in
    wrote a.form a.numbers.now a.out.now _ (sym c.record_of.ensures ∙ c.in-Ok.is) c.write.ensures

pub returns-then-is_form : goal.returns-then-is_form
returns-then-is_form c = let a = c.args in
    let none = sym c.record_of.ensures ∙ c.in-Err.is in
    no_record a.form a.numbers.now a.out.now _ none (sym c.is_form.ensures ∙ c.if-is_form.true)

pub returns-else-is_form : goal.returns-else-is_form
returns-else-is_form c = let a = c.args in
    let none = sym c.record_of.ensures ∙ c.in-Err.is in
    no_form a.form a.numbers.now a.out.now _ none (sym c.is_form.ensures ∙ c.if-is_form.false)
