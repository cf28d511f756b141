-- The end, stored behind the front, completes the string.
use Rattle.cond.proofs.Kit.{◌∙◌, ap}
use Rattle.rmc.proofs.Checked.{end_stored_lem}
use Rattle.rmc.specs.Stored.{end_stored}
use Rattle.rmc.proofs.RmcSizedForm.store.Goals as goal

pub returns : goal.returns
returns c = c.store_end.ensures ∙ ap end_stored c.store_front.ensures ∙ end_stored_lem c.args.told c.args.out.now c.requires
