-- A magnitude that fits is one that 32 bits hold.
use Rattle.cond.proofs.Kit.{◌∙◌, leb, leb-true, rules, SFits, to_z-of_z, w32}
use Rattle.cond.proofs.Tests.{both}
use Rattle.record.proofs.Signs.{signed_small}
use Rattle.flat_record.proofs.decode.signed_from.Goals as goal

pub returns : goal.returns
returns c = let a = c.args in
    let fits : SFits w32 c.signed_number.result = search rules in
    to_z-of_z fits ∙ c.signed_number.ensures
    ∙ signed_small _ _ (leb-true _ _ (both (leb a.sign 1) (leb a.magnitude 2147483647) c.requires).1)
