-- A buffer that is too short is refused; else the new listener is stored.
use Rattle.cond.proofs.Kit.{◌∙◌, sym}
use Rattle.lindenscoop.proofs.Room.{room}
use Rattle.lindenscoop.proofs.Small.{start_fits}
use Rattle.lindenscoop.proofs.listener_raw.lindenscoop_start_raw.Goals as goal

pub put_state-requires : goal.put_state-requires
put_state-requires c = let a = c.args in
    (room a.state.now (sym c.state_fits.ensures ∙ c.if-not-state_fits.false), rw c.new-started.ensures (start_fits a.form))
