-- Each sign is tested against the number that it stands on.
use Rattle.cond.proofs.Kit.{arith}
use Rattle.forms.specs.Places.{values}
use Rattle.places.proofs.Signed.{sign_consistent_lem}
use Rattle.rmc.proofs.angles.signs_agree.Goals as goal

pub returns : goal.returns
unfolding values
returns c = let s = c.args.s.now in
    let l = c.requires in
    simp (
      c.sign_agrees-2.ensures,
      c.longitude_at.ensures.0,
      c.sign_agrees.ensures,
      c.latitude_at.ensures.0,
      sign_consistent_lem s 27 (omega arith) 78 83,
      sign_consistent_lem s 38 (omega arith) 69 87,
    )
