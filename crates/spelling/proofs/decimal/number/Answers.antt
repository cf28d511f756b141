-- The number so far is that of the bytes passed. It stays below 2 times the power of 10, since no byte has a value above 15.
use Rattle.cond.proofs.Kit.{◌∙◌, arith, lit<, sym}
use Rattle.spelling.specs.Bytes.{digit_value}
use Rattle.spelling.proofs.Stored.{few, many}
use Rattle.spelling.proofs.Steps.{room_most, spelt_all, spelt_next, spelt_none}
use Rattle.spelling.proofs.decimal.number.Goals as goal

pub returns-then-s-gt7 : goal.returns-then-s-gt7
returns-then-s-gt7 c = many 7 _ _ 2 10 (lit< tt) (omega arith)

pub loop-b-init : goal.loop-b-init
loop-b-init c = spelt_none 2 10 digit_value _

pub overflow_mul-n : goal.overflow_mul-n
overflow_mul-n c = omega (arith, room_most 2 10 _ _ 6 (lit< tt) c.loop-b.invariant.room (omega arith))

pub loop-b-preserved : goal.loop-b-preserved
loop-b-preserved c = let a = c.loop-b in
    spelt_next 2 10 digit_value _ a.n a.b-index a.invariant _ (omega arith) (omega arith) c.digit_value.ensures.0

pub returns : goal.returns
returns c = let a = spelt_all 2 10 digit_value _ _ _ c.loop-b.invariant (omega arith) in
    (a.0 ∙ sym (few 7 _ _ (omega arith)), a.1)
