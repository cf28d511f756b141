-- Each sign is tested against the number that it stands on.
use Rattle.forms.specs.Places.{values}
use Rattle.places.proofs.Signed.{sign_consistent_lem}
use Rattle.cond.proofs.Kit.{arith}
use Rattle.block_lines.proofs.position.consistent_at.Goals as goal

pub returns : goal.returns
unfolding values
returns c = let l = c.requires in
    simp (
      c.sign_agrees-2.ensures,
      c.degrees_at-2.ensures.0,
      c.sign_agrees.ensures,
      c.degrees_at.ensures.0,
      sign_consistent_lem c.args.s.now 9 (omega arith) 43 45,
      sign_consistent_lem c.args.s.now 19 (omega arith) 43 45,
    )
