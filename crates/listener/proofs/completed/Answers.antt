-- What is dismissed before the reader runs completes no string; what is left is what the reader says of the last n bytes.
use Rattle.cond.proofs.Kit.{◌+◌, ◌∙◌, ap, arith, eqb, rules, sym}
use Rattle.serial.specs.declared.Shape.{Shape}
use Rattle.listener.proofs.Windows.{other_end, other_start}
use Rattle.listener.proofs.completed.Goals as goal

pub returns-then-b-shape : goal.returns-then-b-shape
returns-then-b-shape c = let a = c.args in
    let p = c.requires in
    let last = ap (λ (x : Shape). x.end) p.shape_is in
    other_end a.form a.y a.at a.shape.length p.place (search rules) (omega arith) p.most
    (eqb (a.kept + 1) a.shape.length) a.b p.newest (λ e. c.if-b-shape.true (e ∙ sym last))

pub returns-then-y-first : goal.returns-then-y-first
returns-then-y-first c = let a = c.args in
    let p = c.requires in
    let first = ap (λ (x : Shape). x.start) p.shape_is in
    other_start a.form a.y a.at a.shape.length p.place (search rules) (omega arith) p.most
    (eqb (a.kept + 1) a.shape.length) (λ e. c.if-y-first.true (rw c.wrap-first.ensures.0 (e ∙ sym first)))
