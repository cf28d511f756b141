-- Each sign is its letter's, and the numbers are far below what 32 bits hold.
use Rattle.std.specs.Prelude.{Some}
use Rattle.cond.proofs.Kit.{◌∙◌, ap₂, arith, rules, SFits, to_z-of_z, w32}
use Rattle.record.specs.declared.Position.TheVariants as PositionIs
use Rattle.forms.specs.Fields.Position.{decode_position}
use Rattle.forms.specs.Places.{values}
use Rattle.places.proofs.Signed.{signed_by}
use Rattle.rmc.proofs.angles.position_at.Goals as goal

pub returns : goal.returns
unfolding values decode_position
returns c = let s = c.args.s.now in
    let l = c.requires in
    let latitude : SFits w32 c.signed_number.result = search rules in
    let longitude : SFits w32 c.signed_number-2.result = search rules in
    let m = c.latitude_at.ensures in
    let n = c.longitude_at.ensures in
    ap₂ (λ y x. Some (PositionIs.Minutes y x))
    (to_z-of_z latitude ∙ c.signed_number.ensures ∙ signed_by s 27 (omega arith) 78 83 _ _ _ c.byte_at-south.ensures m.1 m.0)
    (to_z-of_z longitude ∙ c.signed_number-2.ensures ∙ signed_by s 38 (omega arith) 69 87 _ _ _ c.byte_at-west.ensures n.1 n.0)
