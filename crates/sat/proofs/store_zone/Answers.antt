-- Each branch stores the word of its number; a good record is not utc and summer both.
use Rattle.cond.proofs.Kit.{◌∙◌, not-true, sym}
use Rattle.record.specs.Record.{is_yes}
use Rattle.forms.proofs.Bounds.{good}
use Rattle.places.specs.Stores.{stores}
use Rattle.sat.proofs.store_zone.Goals as goal

pub returns-then-is_yes : goal.returns-then-is_yes
unfolding stores
returns-then-is_yes c = let u = sym c.is_yes.ensures ∙ c.if-is_yes.true in
    rw (c.put_bytes.ensures, u, not-true (is_yes c.args.told.summer) (rw u at (good c.args.told c.requires.good).zoned))

pub returns-then-is_yes-2 : goal.returns-then-is_yes-2
unfolding stores
returns-then-is_yes-2 c = rw (c.put_bytes-then-is_yes-2.ensures, sym c.is_yes.ensures ∙ c.if-is_yes.false, sym c.is_yes-else-is_yes.ensures ∙ c.if-is_yes-2.true)

pub returns-else-is_yes-2 : goal.returns-else-is_yes-2
unfolding stores
returns-else-is_yes-2 c = rw (c.put_bytes-else-is_yes-2.ensures, sym c.is_yes.ensures ∙ c.if-is_yes.false, sym c.is_yes-else-is_yes.ensures ∙ c.if-is_yes-2.false)
