-- The buffer has room for the row.
use Rattle.cond.proofs.Kit.{◌∙◌, ◌≡◌, arith, length, rules}
use Rattle.spelling.proofs.Stored.{stored_in}
use Rattle.frame.proofs.store.put_row.Goals as goal

pub returns : goal.returns
returns c = let l : length c.args.row ≡ 10 = search rules in
    (c.put_bytes.ensures ∙ stored_in _ _ _ (omega (arith, c.requires)), l)
