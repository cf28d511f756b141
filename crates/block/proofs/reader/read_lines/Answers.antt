-- Behind i lines, what they told and where they end lead to the answer as the whole does; each turn reads one line more.
use Rattle.cond.proofs.Kit.{◌∙◌, arith, eq-eqb, ne_eqb, sym}
use Rattle.forms.specs.Block.{block_lines}
use Rattle.block.proofs.Answers.{turn_on, turn_within, turn_wrong}
use Rattle.block.proofs.First.{all_closed, ended}
use Rattle.block.proofs.reader.read_lines.Goals as goal

pub returns-in_default : goal.returns-in_default
returns-in_default c = let l = c.loop-i in
    sym (l.invariant.1 ∙ turn_wrong block_lines _ l.at l.i (omega arith) l.state _ c.read_line.ensures c.in_default.is)

pub overflow_add-at : goal.overflow_add-at
overflow_add-at c = let l = c.loop-i in
    omega (arith, turn_within block_lines c.args.s.now l.at l.i (omega arith) l.state _ c.read_line.ensures all_closed l.invariant.0 _ _ c.in-Some.is)

pub loop-i-preserved : goal.loop-i-preserved
loop-i-preserved c = let l = c.loop-i in
    let s = c.args.s.now in
    let e = c.read_line.ensures in
    let q = c.in-Some.is in
    (turn_within block_lines s l.at l.i (omega arith) l.state _ e all_closed l.invariant.0 _ _ q, l.invariant.1 ∙ turn_on block_lines s l.at l.i (omega arith) l.state _ e _ _ q)

pub returns-then-at-s : goal.returns-then-at-s
returns-then-at-s c = let l = c.loop-i in
    sym (l.invariant.1 ∙ ended _ l.at l.state l.i (omega arith) ∙ simp (ne_eqb l.at _ c.if-at-s.true))

pub returns : goal.returns
returns c = let l = c.loop-i in
    c.validate.ensures ∙ sym (l.invariant.1 ∙ ended _ l.at l.state l.i (omega arith) ∙ simp (eq-eqb l.at _ c.if-at-s.false))
