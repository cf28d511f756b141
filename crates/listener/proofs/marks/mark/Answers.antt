-- What is refused changes no mark; else a new listener marks every byte.
use Rattle.cond.proofs.Kit.{◌∙◌, arith, sym}
use Rattle.serial.proofs.Lengths.{not_serial, some_serial}
use Rattle.listener.specs.Listening.{hears}
use Rattle.listener.proofs.Marking.{all_marked, no_form, no_room}
use Rattle.listener.proofs.marks.mark.Goals as goal

pub returns-then-length_of-eq0 : goal.returns-then-length_of-eq0
unfolding hears
returns-then-length_of-eq0 c = let a = c.args in
    no_form a.form a.s.now a.marks.now (not_serial a.form (sym c.length_of.ensures ∙ c.if-length_of-eq0.true))

pub returns-then-marks-s : goal.returns-then-marks-s
unfolding hears
returns-then-marks-s c = let a = c.args in
    no_room a.form a.s.now a.marks.now
    (some_serial a.form (λ e. c.if-length_of-eq0.false (c.length_of.ensures ∙ e))) c.if-marks-s.true

pub returns : goal.returns
unfolding hears
returns c = let a = c.args in
    let known = some_serial a.form (λ e. c.if-length_of-eq0.false (c.length_of.ensures ∙ e)) in
    all_marked a.form a.s.now a.marks.now known _ (omega arith) (c.mark_each.ensures ∙ rw c.new-started.ensures)
