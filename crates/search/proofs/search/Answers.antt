-- No valid string stands from the start to the place reached, so that the answer is the one from there on.
use Rattle.cond.proofs.Kit.{◌∙◌, ap, arith, refl, sym}
use Rattle.serial.specs.declared.Shape.{Shape}
use Rattle.search.proofs.Places.{go_on_lem, here, no_form, no_more}
use Rattle.search.proofs.search.Goals as goal

pub returns-then-n-eq0 : goal.returns-then-n-eq0
returns-then-n-eq0 c = let n = ap (λ (x : Shape). x.length) c.shape_of-shape.ensures in
    no_form c.args.form _ _ (sym n ∙ c.if-n-eq0.true)

pub returns-then-s-n : goal.returns-then-s-n
returns-then-s-n c = let n = ap (λ (x : Shape). x.length) c.shape_of-shape.ensures in
    no_more (record { is = n; some_byte = c.if-n-eq0.false; same = refl }) (omega arith)

pub returns-in-Ok : goal.returns-in-Ok
returns-in-Ok c = here c.loop-p.invariant (omega arith) c.read_at.ensures c.in-Ok.is

pub loop-p-preserved : goal.loop-p-preserved
loop-p-preserved c = go_on_lem c.loop-p.invariant (omega arith) c.read_at.ensures c.in_default.is

pub returns : goal.returns
returns c = no_more c.loop-p.invariant (omega arith)
