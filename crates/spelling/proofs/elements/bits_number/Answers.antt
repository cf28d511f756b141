-- The number so far is that of the elements behind. It stays below 255 times the power of 2, since no element is above 255.
use Rattle.cond.proofs.Kit.{◌∙◌, arith, lit<, sym}
use Rattle.spelling.proofs.Stored.{few, many}
use Rattle.spelling.proofs.Steps.{behind_all, behind_next, behind_none, behind_small}
use Rattle.spelling.proofs.elements.bits_number.Goals as goal

pub returns-then-s-gt24 : goal.returns-then-s-gt24
returns-then-s-gt24 c = many 24 _ _ 255 2 (lit< tt) (omega arith)

pub loop-bit-init : goal.loop-bit-init
loop-bit-init c = behind_none _ _ (cc)

pub overflow_mul-n : goal.overflow_mul-n
overflow_mul-n c = omega (arith, behind_small _ _ _ c.loop-bit.invariant _ _ c.in-Some.ensures.steps (omega arith))

pub overflow_add-n : goal.overflow_add-n
overflow_add-n c = omega (arith, behind_small _ _ _ c.loop-bit.invariant _ _ c.in-Some.ensures.steps (omega arith))

pub loop-bit-preserved : goal.loop-bit-preserved
loop-bit-preserved c = behind_next _ _ _ c.loop-bit.invariant _ _ _ c.in-Some.ensures.steps c.from.ensures (omega arith)

pub returns : goal.returns
returns c = let a = behind_all _ _ _ c.loop-bit.invariant c.in-None.ensures.steps.0 in
    (a.0 ∙ sym (few 24 _ _ (omega arith)), a.1)
