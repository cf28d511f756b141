-- Each part of the test is a call on the eight bytes at the place.
use Rattle.places.proofs.Part.{no_pairs, pairs}
use Rattle.places.proofs.inspect.pairs_at.Goals as goal

pub returns-then-x-ne8 : goal.returns-then-x-ne8
returns-then-x-ne8 c = let a = c.args in no_pairs a.s.now a.at a.separator _ c.part_of-x.ensures c.if-x-ne8.true

pub returns : goal.returns
returns c = let a = c.args in
    pairs a.s.now a.at a.separator _ c.part_of-x.ensures _ _ _ _ _
    c.digits_at.ensures c.is_at.ensures c.digits_at-2.ensures c.is_at-2.ensures c.digits_at-3.ensures
