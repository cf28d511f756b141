-- Each byte is a number; the rest is a call.
use Rattle.cond.proofs.Kit.{◌∙◌}
use Rattle.lindenscoop.specs.State.{listener_of}
use Rattle.lindenscoop.proofs.state.passing_in.Goals as goal

pub returns : goal.returns
unfolding listener_of
returns c = c.passing_of.ensures ∙ rw (c.wide-3.ensures, c.wide-2.ensures, c.wide.ensures, c.shape_of-shape.ensures, c.form_in.ensures)
