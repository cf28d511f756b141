-- The position is stored in its three pieces.
use Rattle.forms.specs.Encode.{encode}
use Rattle.erlangen.proofs.Pieces.{stores_position}
use Rattle.erlangen.proofs.store.store_position.Goals as goal

pub returns : goal.returns
returns c = let a = c.args in
    cc (stores_position (encode a.told) a.out.now)
