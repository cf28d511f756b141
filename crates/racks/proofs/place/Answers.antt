-- The rack's rows are those of the definitions, and the tests come in the order of the refusals.
use Rattle.cond.proofs.Kit.{◌∙◌, arith, refl, rules, sym}
use Rattle.std.specs.Prelude.{None}
use Rattle.racks.proofs.RackRows.{full_is, join_fits, joined_is, opened_is, opened_room, told_as}
use Rattle.racks.proofs.place.Goals as goal

pub returns-in_err-own : goal.returns-in_err-own
returns-in_err-own c = let a = c.args in rw (c.in_err-own.ensures.refused a.r) (search rules)

pub returns-in_err-second : goal.returns-in_err-second
returns-in_err-second c =
    let a = c.args in
    rw (told_as a.table.now a.used a.rack a.r _ _ c.in_ok-own.ensures.own None (sym c.second_in.ensures ∙ c.in_err-second.ensures.ok_part)) (search rules)

pub overflow_add-run : goal.overflow_add-run
overflow_add-run c =
    let a = c.args in
    omega (arith, join_fits a.table.now a.used a.rack a.r _ _ c.in_ok-own.ensures.own _ (sym c.joins.ensures ∙ c.if-joins.true))

pub returns-then-joins : goal.returns-then-joins
returns-then-joins c =
    let a = c.args in
    let e = sym c.second_in.ensures ∙ c.in_ok-second.ensures.ok_part in
    rw (joined_is a.table.now a.used a.rack a.r _ _ c.in_ok-own.ensures.own _ e (sym c.joins.ensures ∙ c.if-joins.true)) (refl, refl)

pub returns-then-own-ge32 : goal.returns-then-own-ge32
returns-then-own-ge32 c =
    let a = c.args in
    let e = sym c.second_in.ensures ∙ c.in_ok-second.ensures.ok_part in
    rw (full_is a.table.now a.used a.rack a.r _ _ c.in_ok-own.ensures.own _ e (sym c.joins.ensures ∙ c.if-joins.false) c.if-own-ge32.true) (refl, refl)

pub bounds-table-used : goal.bounds-table-used
bounds-table-used c =
    let a = c.args in
    omega (arith, opened_room a.table.now a.used a.rack a.r _ _ c.in_ok-own.ensures.own c.if-own-ge32.false)

pub overflow_add-result : goal.overflow_add-result
overflow_add-result c =
    let a = c.args in
    omega (arith, opened_room a.table.now a.used a.rack a.r _ _ c.in_ok-own.ensures.own c.if-own-ge32.false)

pub returns : goal.returns
returns c =
    let a = c.args in
    let e = sym c.second_in.ensures ∙ c.in_ok-second.ensures.ok_part in
    rw (opened_is a.table.now a.used a.rack a.r _ _ c.in_ok-own.ensures.own _ e (sym c.joins.ensures ∙ c.if-joins.false) c.if-own-ge32.false) (refl, refl)
