-- What was read stands behind what was filled before.
use Rattle.cond.proofs.Kit.{◌-◌, arith, length, same_len_mid}
use Rattle.std.proofs.KnownBytes.{Consumes-trans}
use Rattle.heard.proofs.Counts.{brought}
use Rattle.heard.proofs.read_full.Goals as goal

pub loop-done-preserved : goal.loop-done-preserved
loop-done-preserved g c =
    let q = c.loop-done in
    let long = same_len_mid q.done (length q.part - q.done) q.part c.read_some.new.part c.read_some.auto.part in
    let fits = c.in_ok-got.ensures.inside in
    record {
      inside = omega (arith, long, fits);
      taken = rw (brought q.done c.in_ok-got.got q.part c.read_some.new.part _ q.invariant.inside (omega (arith, fits, c.read_some.auto.part)))
          (Consumes-trans _ _ _ _ _ q.invariant.taken c.in_ok-got.ensures.bytes.0);
    }

pub loop-done-smaller : goal.loop-done-smaller
loop-done-smaller g c =
    let q = c.loop-done in
    omega (arith, same_len_mid q.done (length q.part - q.done) q.part c.read_some.new.part c.read_some.auto.part)
