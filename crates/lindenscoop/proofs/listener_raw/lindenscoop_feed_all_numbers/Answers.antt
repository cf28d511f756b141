-- Buffers that are too short are refused; else the state that the run leaves is stored, and the record if one is handed out.
use Rattle.cond.proofs.Kit.{◌∙◌, ap, rules, sym}
use Rattle.lindenscoop.specs.Run.{run_of}
use Rattle.lindenscoop.proofs.Room.{rooms}
use Rattle.lindenscoop.proofs.Small.{of_bytes, run_fits}
use Rattle.lindenscoop.proofs.listener_raw.lindenscoop_feed_all_numbers.Goals as goal

pub put_state-requires : goal.put_state-requires
put_state-requires c = let a = c.args in
    let s = a.bytes.now in
    let next = c.feed_until-ran.ensures.state ∙ ap (λ l. (run_of l s).state) c.listener_of.ensures in
    let fits = run_fits s _ (of_bytes a.state.now (search rules)) in
    ((rooms a.state.now a.numbers.now (sym c.both_fit.ensures ∙ c.if-not-both_fit.false)).0, rw next fits)
