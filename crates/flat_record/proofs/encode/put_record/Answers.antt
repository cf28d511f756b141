-- The two halves are stored one behind the other.
use Rattle.flat_record.proofs.Put.{all_stored, no_room}
use Rattle.flat_record.proofs.encode.put_record.Goals as goal

pub returns-then-out-lt-SIZE : goal.returns-then-out-lt-SIZE
returns-then-out-lt-SIZE c = let a = c.args in
    no_room a.r a.out.now c.if-out-lt-SIZE.true

pub returns : goal.returns
returns c = all_stored _ _ c.if-out-lt-SIZE.false c.put_head.ensures c.put_tail.ensures
