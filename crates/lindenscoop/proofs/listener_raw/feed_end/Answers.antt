-- The next state is stored, and the record if one is handed out.
use Rattle.cond.proofs.Kit.{◌∙◌, ap, rules}
use Rattle.listener.specs.Listening.{next_of}
use Rattle.lindenscoop.proofs.Room.{rooms}
use Rattle.lindenscoop.proofs.Small.{next_fits, of_bytes}
use Rattle.lindenscoop.proofs.listener_raw.feed_end.Goals as goal

pub put_state-requires : goal.put_state-requires
put_state-requires c = let a = c.args in
    let next = c.feed_end-fed.ensures.next ∙ ap (λ l. next_of l a.byte) c.listener_of.ensures in
    let small = next_fits _ a.byte (of_bytes a.state.now (search rules)) in
    ((rooms a.state.now a.numbers.now c.requires).0, rw next small)
