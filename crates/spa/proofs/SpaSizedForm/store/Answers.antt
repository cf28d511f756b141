-- The end, stored behind the front, completes the string.
use Rattle.cond.proofs.Kit.{◌∙◌, ap}
use Rattle.spa.proofs.Checked.{end_stored_lem}
use Rattle.spa.specs.Stored.{end_stored}
use Rattle.spa.proofs.SpaSizedForm.store.Goals as goal

pub returns : goal.returns
returns c = c.store_end.ensures ∙ ap end_stored c.store_front.ensures ∙ end_stored_lem c.args.told c.args.out.now c.requires
