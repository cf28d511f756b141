-- Each sign is its letter's, and the degrees are far below what 32 bits hold.
use Rattle.cond.proofs.Kit.{◌∙◌, arith, rules, SFits, to_z-of_z, w32}
use Rattle.spelling.specs.Spelling.{value_of}
use Rattle.places.proofs.Signed.{same_position, signed_by}
use Rattle.forms.specs.Fields.Position.{decode_position}
use Rattle.forms.specs.Places.{values}
use Rattle.erlangen.proofs.decoding.position_at.Goals as goal

pub returns : goal.returns
unfolding values value_of decode_position
returns c = let s = c.args.s.now in
    let l = c.requires in
    let latitude : SFits w32 c.signed_number.result = search rules in
    let longitude : SFits w32 c.signed_number-2.result = search rules in
    let m = c.degrees_at.ensures in
    let n = c.degrees_at-2.ensures in
    same_position _ _ _ _ _ _
    (to_z-of_z latitude ∙ c.signed_number.ensures ∙ signed_by s 48 (omega arith) 78 83 _ _ _ c.byte_at-south.ensures m.1 m.0)
    (to_z-of_z longitude ∙ c.signed_number-2.ensures ∙ signed_by s 58 (omega arith) 69 87 _ _ _ c.byte_at-west.ensures n.1 n.0)
    c.number_at.ensures.0
