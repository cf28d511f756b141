-- The tests decide, and the place and the numbers are those of the calls.
use Rattle.std.specs.Prelude.{None}
use Rattle.cond.proofs.Kit.{◌≡◌, and-false, and-true, eq-eqb, ne_eqb, ℕ}
use Rattle.serial.specs.declared.Shape.{Shape}
use Rattle.listener.specs.Passing.{passing_of}
use Rattle.listener.proofs.passing.passing_of.Goals as goal

ended : (s : Shape) (at kept distance b : ℕ) → b ≡ s.end → None ≡ passing_of s at kept distance b
unfolding passing_of
ended s at kept distance b e = simp (eq-eqb b s.end e, and-false)

pub returns-then-b-shape : goal.returns-then-b-shape
unfolding passing_of
returns-then-b-shape c = let a = c.args in ended a.shape a.at a.kept a.distance a.b c.if-b-shape.true

pub returns-then-kept-n : goal.returns-then-kept-n
unfolding passing_of
returns-then-kept-n c = rw
    (ne_eqb _ _ c.if-b-shape.false, and-true, c.if-kept-n.true, c.one_more.ensures, c.buffered_after.ensures, c.wrap.ensures.0, c.place-place.ensures.0)

pub returns : goal.returns
unfolding passing_of
returns c = rw (ne_eqb _ _ c.if-b-shape.false, and-true, c.if-kept-n.false)
