-- The sign is the letter's.
use Rattle.std.specs.Prelude.{Some}
use Rattle.cond.proofs.Kit.{◌∙◌, ap, arith, rules, SFits, to_z-of_z, w32}
use Rattle.forms.specs.Fields.Offset.{decode_minutes, decode_offset}
use Rattle.forms.specs.Places.{values}
use Rattle.places.proofs.Signed.{signed_by}
use Rattle.erlangen.proofs.decoding.offset_at.Goals as goal

pub returns : goal.returns
unfolding values decode_minutes decode_offset
returns c = let l = c.requires in
    let fits : SFits w32 c.signed_number.result = search rules in
    let m = c.minutes_at.ensures in
    ap Some
    (to_z-of_z fits ∙ c.signed_number.ensures ∙ signed_by c.args.s.now 24 (omega arith) 43 45 _ _ _ c.byte_at-behind.ensures m.1 m.0)
