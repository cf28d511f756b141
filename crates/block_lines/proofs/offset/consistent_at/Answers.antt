-- The sign is tested against the minutes.
use Rattle.cond.proofs.Kit.{arith, sym}
use Rattle.forms.specs.Fields.Offset.{decode_minutes}
use Rattle.forms.specs.Places.{values}
use Rattle.places.proofs.Signed.{sign_consistent_lem}
use Rattle.block_lines.proofs.offset.consistent_at.Goals as goal

pub returns : goal.returns
unfolding values decode_minutes
returns c = let l = c.requires in
    simp (c.sign_agrees.ensures, c.minutes_at.ensures.0) (sym (sign_consistent_lem c.args.s.now 7 (omega arith) 43 45 _))
