-- The bytes passed stand as they are, and those from there on, blanked with the last one behind them, make up what is asked for.
use Rattle.cond.proofs.Kit.{◌∙◌, ap, arith, length-drop, length-take, take-append-drop}
use Rattle.spelling.specs.Bytes.{blanked}
use Rattle.spelling.proofs.Stores.{blank_step, blank_other, blank_end}
use Rattle.spelling.proofs.padding.blank_zeros.Goals as goal

pub loop-digit-init : goal.loop-digit-init
loop-digit-init c = ap blanked (take-append-drop _ _)

pub returns-then-digit-ne48 : goal.returns-then-digit-ne48
returns-then-digit-ne48 c = let a = c.loop-digit in blank_other _ a.digit-index _ _ (omega arith) c.if-digit-ne48.true a.invariant

pub loop-digit-preserved : goal.loop-digit-preserved
loop-digit-preserved c = let a = c.loop-digit in
    blank_step _ a.digit-index _ _ (omega arith) (length-drop _ c.args.out.now ∙ omega (arith, length-take c.saturating_sub-last.result c.args.out.now)) c.if-digit-ne48.false a.invariant

pub returns : goal.returns
returns c = let a = c.loop-digit in blank_end _ a.digit-index _ _ (omega arith) (omega (arith, length-drop c.saturating_sub-last.result c.args.out.now)) a.invariant
