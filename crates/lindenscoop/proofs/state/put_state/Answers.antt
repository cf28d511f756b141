-- The ring and the four numbers are stored one behind the other.
use Rattle.cond.proofs.Kit.{◌∙◌, ap, length, refl, sym}
use Rattle.spelling.specs.Stored.{stored}
use Rattle.lindenscoop.proofs.Heads.{state_laid}
use Rattle.lindenscoop.proofs.state.put_state.Goals as goal

pub returns : goal.returns
returns c = let ring = c.ring_in-ring.ensures in
    let out = c.args.out.now in
    let first = c.put_bytes.ensures ∙ ap (stored out 0) ring.0 in
    state_laid c.args.l out (sym (ap length ring.0) ∙ ring.1) c.requires.0 first refl refl refl c.put_numbers.ensures
