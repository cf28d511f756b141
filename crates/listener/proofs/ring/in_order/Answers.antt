-- Each turn lays one byte more of the ring into the layout.
use Rattle.cond.proofs.Kit.{arith, length-set, rules}
use Rattle.listener.proofs.Rings.{one_more}
use Rattle.listener.proofs.ring.in_order.Goals as goal

pub loop-i-preserved : goal.loop-i-preserved
loop-i-preserved c = let a = c.args in
    let l = c.loop-i in
    let more = one_more a.y a.from (search rules) (search rules) l.z l.i c.wrap.result in
    (search rules, (simp length-set l.invariant.1.0, more (omega arith) l.invariant.1.0 c.wrap.ensures.0 l.invariant.1.1))
