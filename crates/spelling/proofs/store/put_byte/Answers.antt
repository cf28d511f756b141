-- A byte is stored where its place lies inside, and else nothing changes.
use Rattle.cond.proofs.Kit.{arith, sym}
use Rattle.spelling.proofs.Stored.{stored_in, stored_out}
use Rattle.spelling.proofs.store.put_byte.Goals as goal

pub returns-then-at-out : goal.returns-then-at-out
returns-then-at-out c = sym (stored_in _ _ _ (omega arith))

pub returns-else-at-out : goal.returns-else-at-out
returns-else-at-out c = sym (stored_out _ _ _ (omega arith))
