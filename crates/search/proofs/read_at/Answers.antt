-- A string with another first or last byte is no valid one; any other is read whole.
use Rattle.cond.proofs.Kit.{◌∙◌, ap, sym}
use Rattle.forms.specs.Valid.{record_in, valid_of}
use Rattle.search.proofs.Places.{other_end, other_start}
use Rattle.search.proofs.read_at.Goals as goal

pub returns-then-s-p : goal.returns-then-s-p
unfolding valid_of
returns-then-s-p c = let a = c.args in
    let p = c.requires in
    other_start a.form a.n a.s.now a.p p.1.1.1.1 p.1.1.1.0 (λ e. c.if-s-p.true (e ∙ sym p.1.0))

pub returns-then-s-end : goal.returns-then-s-end
unfolding valid_of
returns-then-s-end c = let a = c.args in
    let p = c.requires in
    other_end a.form a.n a.s.now a.p p.1.1.1.1 p.1.1.1.0 (λ e. c.if-s-end.true (e ∙ sym p.1.1.0))

pub returns : goal.returns
unfolding valid_of
returns c = ap record_in c.read.ensures ∙ rw c.part_at.ensures
