-- The counts stay within a table, and at the end all rows in use are seen.
use Rattle.cond.proofs.Kit.{arith, length-take-le, refl}
use Rattle.racks.proofs.RackRows.{all_walked, count_lt, places_lt}
use Rattle.racks.proofs.rack_rows.racks_of.Goals as goal

pub loop-i-init : goal.loop-i-init
loop-i-init c = record { inside = omega arith; few = omega arith; only = refl; zero_is = refl; one_is = refl }

pub overflow_add-zero : goal.overflow_add-zero
overflow_add-zero c = let a = c.args in
    let w = c.loop-i.invariant in
    omega (arith, count_lt a.table.now a.used _ _ _ w (omega (arith, length-take-le a.used a.table.now w.inside)) (omega arith))

pub overflow_add-one : goal.overflow_add-one
overflow_add-one c = let a = c.args in
    let w = c.loop-i.invariant in
    omega (arith, count_lt a.table.now a.used _ _ _ w (omega (arith, length-take-le a.used a.table.now w.inside)) (omega arith))

pub returns-clause-both : goal.returns-clause-both
returns-clause-both c =
    let a = c.args in
    let w = c.loop-i.invariant in
    all_walked a.table.now a.used _ _ _ w (omega (arith, length-take-le a.used a.table.now w.inside))

pub returns-clause-within : goal.returns-clause-within
returns-clause-within c = places_lt _ _ _ _ _ c.loop-i.invariant (omega arith)
