-- The letter of a number below their count is stored, and else nothing.
use Rattle.cond.proofs.Kit.{◌∙◌, ap, arith, length, sym}
use Rattle.spelling.specs.Stored.{stored}
use Rattle.spelling.proofs.Stored.{stored_none}
use Rattle.places.proofs.Letters.{letters_at, letters_none}
use Rattle.places.proofs.put.put_letter.Goals as goal

pub returns-then-n-choices : goal.returns-then-n-choices
returns-then-n-choices c = let a = c.args in
    c.put_byte.ensures ∙ sym (ap (stored a.out.now a.at) (letters_at a.choices.now a.n (omega arith)))

pub returns-else-n-choices : goal.returns-else-n-choices
returns-else-n-choices c = let a = c.args in
    sym (stored_none _ _ _ (ap length (letters_none a.choices.now a.n (omega arith))))
