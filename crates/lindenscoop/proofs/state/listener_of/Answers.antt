-- Each byte is a number; the ring and the form are calls.
use Rattle.lindenscoop.specs.State.{listener_of}
use Rattle.lindenscoop.proofs.state.listener_of.Goals as goal

pub returns : goal.returns
unfolding listener_of
returns c = simp (c.form_in.ensures, c.wide-3.ensures, c.wide-2.ensures, c.wide.ensures, c.ring_of.ensures)
