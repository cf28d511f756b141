-- The line of a refused start is the one of the paper.
use Rattle.cond.proofs.Kit.{◌∙◌, ◌≡◌, sym}
use Rattle.std.proofs.lemmas.Result.{on_ok_weaker}
use Rattle.forms.specs.Valid.{length_of}
use Rattle.report.specs.Request.{refused_line}
use Rattle.heard.specs.Output.{refused}
use Rattle.heard.proofs.Counts.{on_err, some_taken, taken_more}
use Rattle.heard.proofs.Whole.{all_heard, all_refused}
use Rattle.heard.proofs.run.Goals as goal

pub print-requires : goal.print-requires
unfolding refused_line
print-requires g c = refused

pub returns-then-length_of-eq0-clause-told : goal.returns-then-length_of-eq0-clause-told
unfolding refused_line
returns-then-length_of-eq0-clause-told g c =
    let read = c.in_ok-n.ensures in
    let none = sym c.length_of.ensures ∙ c.if-length_of-eq0.true in
    on_ok_weaker c.print.result
    (all_refused c.read_full.new.part c.in_ok-n.n _ _ _ _ _ c.read_full.auto.part read.inside read.bytes read.end c.form_of-form.ensures none)
    c.print.ensures

pub returns-clause-told : goal.returns-clause-told
returns-clause-told g c =
    let read = c.in_ok-n.ensures in
    let some = λ (e : length_of c.form_of-form.result ≡ 0). c.if-length_of-eq0.false (c.length_of.ensures ∙ e) in
    let heard = c.in_ok-total.ensures in
    on_ok_weaker c.finish.result
    (all_heard c.read_full.new.part c.in_ok-n.n _ _ _ _ _ _ _ _ _ c.read_full.auto.part read.inside read.bytes read.end c.form_of-form.ensures some
    heard.listened heard.end)
    c.finish.ensures

pub returns-in_err-total-clause-err : goal.returns-in_err-total-clause-err
returns-in_err-total-clause-err g c = on_err _ (taken_more _ c.in_ok-n.ensures.bytes c.in_err-total.ensures.err)

pub returns-then-length_of-eq0-clause-err : goal.returns-then-length_of-eq0-clause-err
returns-then-length_of-eq0-clause-err g c = on_err _ (some_taken _ c.in_ok-n.ensures.bytes)

pub returns-clause-err : goal.returns-clause-err
returns-clause-err g c = on_err _ (taken_more _ c.in_ok-n.ensures.bytes (some_taken _ c.in_ok-total.ensures.listened.taken))
