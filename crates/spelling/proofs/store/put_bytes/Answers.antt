-- What is still to be stored makes of the bytes as they are what all of src makes of the bytes at entry.
use Rattle.cond.proofs.Kit.{◌∙◌, arith, sym}
use Rattle.spelling.proofs.Stored.{stored_in}
use Rattle.spelling.proofs.Stores.{sets_end}
use Rattle.spelling.proofs.store.put_bytes.Goals as goal

pub returns-after-loop-i : goal.returns-after-loop-i
returns-after-loop-i c = let a = c.loop-i in
    sym (stored_in _ _ _ (omega (arith, a.invariant.1)) ∙ a.invariant.2 ∙ sets_end _ _ _ a.i (omega arith))
