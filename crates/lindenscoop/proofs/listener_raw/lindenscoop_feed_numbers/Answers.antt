-- Buffers that are too short are refused. A byte that ends no string is stored where the state stands.
use Rattle.std.specs.Prelude.{None, Ok}
use Rattle.cond.proofs.Kit.{◌∙◌, rules, refl, sym}
use Rattle.lindenscoop.proofs.Heads.{fed, fits, moved}
use Rattle.lindenscoop.proofs.Room.{answered, rooms}
use Rattle.lindenscoop.proofs.listener_raw.lindenscoop_feed_numbers.Goals as goal

pub move_on-requires : goal.move_on-requires
move_on-requires c = let a = c.args in
    let room = (rooms a.state.now a.numbers.now (sym c.both_fit.ensures ∙ c.if-not-both_fit.false)).0 in
    (room, fits a.state.now a.byte room c.passing_in.ensures c.in-Some.is (search rules))

pub returns-in-Some : goal.returns-in-Some
returns-in-Some c = let p = c.passing_in.ensures in
    let a = c.args in
    let t = sym c.both_fit.ensures ∙ c.if-not-both_fit.false in
    let room = (rooms a.state.now a.numbers.now t).0 in
    answered t (Ok None) (fed a.state.now a.byte room p c.in-Some.is).1.answer refl refl
    (moved a.state.now a.byte room p c.in-Some.is c.move_on.ensures) refl
