-- A byte that passes leaves what `passing_of` says; every other goes its own way.
use Rattle.cond.proofs.Kit.{◌≡◌, length, rules}
use Rattle.serial.specs.Shape.{longest}
use Rattle.listener.proofs.Steps.{passed}
use Rattle.listener.proofs.Listener.feed.Goals as goal

pub with_byte-requires : goal.with_byte-requires
with_byte-requires c = let a = c.args in
    let sized : length a.self.bytes ≡ longest = search rules in
    (passed a.self a.b sized c.shape_of-shape.ensures c.passing_of.ensures c.in-Some.is).0

pub returns-in-Some : goal.returns-in-Some
returns-in-Some c = let a = c.args in
    let sized : length a.self.bytes ≡ longest = search rules in
    rw c.with_byte.ensures.0 (passed a.self a.b sized c.shape_of-shape.ensures c.passing_of.ensures c.in-Some.is).1
