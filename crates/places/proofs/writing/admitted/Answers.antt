-- Each answer is the definition's after the tests that led to it.
use Rattle.places.proofs.Tests.{bad_record, missing_field, not_expressible, short_buffer, taken}
use Rattle.places.proofs.writing.admitted.Goals as goal

pub returns-then-not-good : goal.returns-then-not-good
returns-then-not-good c = bad_record _ _ _ _ _ (c.if-not-good.true)

pub returns-then-not-carried : goal.returns-then-not-carried
returns-then-not-carried c = missing_field _ _ _ _ _ (c.if-not-good.false) (c.if-not-carried.true)

pub returns-then-not-expressible : goal.returns-then-not-expressible
returns-then-not-expressible c = not_expressible _ _ _ _ _ (c.if-not-good.false) (c.if-not-carried.false) (c.if-not-expressible.true)

pub returns-then-room-size : goal.returns-then-room-size
returns-then-room-size c = short_buffer _ _ _ _ _ (c.if-not-good.false) (c.if-not-carried.false) (c.if-not-expressible.false) c.if-room-size.true

pub returns : goal.returns
returns c = taken _ _ _ _ _ (c.if-not-good.false) (c.if-not-carried.false) (c.if-not-expressible.false) c.if-room-size.false
