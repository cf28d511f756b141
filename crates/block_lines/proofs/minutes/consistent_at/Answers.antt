-- Each sign is tested against the number that it stands on.
use Rattle.cond.proofs.Kit.{arith, rules}
use Rattle.forms.specs.Places.{values}
use Rattle.places.proofs.Signed.{sign_consistent_lem}
use Rattle.block_lines.proofs.minutes.consistent_at.Goals as goal

pub returns : goal.returns
unfolding values
returns c = let s = c.args.s.now in
    let l = c.requires in
    simp (c.sign_agrees-2.ensures, c.sign_agrees.ensures, sign_consistent_lem s 9 (omega arith) 43 45, sign_consistent_lem s 18 (omega arith) 43 45) (search rules)
