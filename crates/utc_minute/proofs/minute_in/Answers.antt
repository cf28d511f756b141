-- A good record's time and offset are in range, which is what `utc_minute` asks, and an offset that is absent is answered as absent.
use Rattle.cond.proofs.Kit.{arith, rules, SFits, to_z-of_z, w32}
use Rattle.utc_minute.proofs.Good.{minute_lt, offset_le}
use Rattle.utc_minute.proofs.minute_in.Goals as goal

pub overflow_mul-r : goal.overflow_mul-r
overflow_mul-r c = omega (arith, minute_lt _ c.requires)

pub overflow_add-r : goal.overflow_add-r
overflow_add-r c = omega (arith, minute_lt _ c.requires)

pub utc_minute-requires : goal.utc_minute-requires
utc_minute-requires c = let fits : SFits w32 c.in_ok-r.field-0 = search rules in
    (minute_lt _ c.requires, rw (to_z-of_z fits) (offset_le _ c.requires _ c.in_ok-r.was))
