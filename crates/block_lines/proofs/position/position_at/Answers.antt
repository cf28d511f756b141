-- Each sign is its letter's, and the degrees are far below what 32 bits hold.
use Rattle.cond.proofs.Kit.{◌∙◌, arith, rules, SFits, to_z-of_z, w32}
use Rattle.record.proofs.Signs.{signed_small}
use Rattle.forms.specs.Fields.Position.{decode_position}
use Rattle.forms.specs.Places.{values}
use Rattle.places.proofs.Signed.{same_position, signed_at}
use Rattle.block_lines.proofs.position.position_at.Goals as goal

pub returns : goal.returns
unfolding values decode_position
returns c = let l = c.requires in
    let latitude : SFits w32 c.signed_number.result = search rules in
    let longitude : SFits w32 c.signed_number-2.result = search rules in
    same_position _ _ _ _ _ _
    (to_z-of_z latitude ∙ c.signed_number.ensures ∙ signed_small _ _ c.degrees_at.ensures.1 ∙ signed_at c.args.s.now 9 (omega arith) 43 45 _ _ c.degrees_at.ensures.0)
    (to_z-of_z longitude ∙ c.signed_number-2.ensures ∙ signed_small _ _ c.degrees_at-2.ensures.1 ∙ signed_at c.args.s.now 19 (omega arith) 43 45 _ _ c.degrees_at-2.ensures.0)
    c.number_at.ensures.0
