-- The sign is the letter's.
use Rattle.std.specs.Prelude.{Some}
use Rattle.cond.proofs.Kit.{◌∙◌, ap, arith, rules, SFits, to_z-of_z, w32}
use Rattle.record.proofs.Signs.{signed_small}
use Rattle.forms.specs.Fields.Offset.{decode_minutes, decode_offset}
use Rattle.forms.specs.Places.{values}
use Rattle.places.proofs.Signed.{signed_at}
use Rattle.block_lines.proofs.offset.offset_at.Goals as goal

pub returns : goal.returns
unfolding values decode_minutes decode_offset
returns c = let l = c.requires in
    let fits : SFits w32 c.signed_number.result = search rules in
    ap Some (to_z-of_z fits ∙ c.signed_number.ensures ∙ signed_small _ _ c.minutes_at.ensures.1 ∙ signed_at c.args.s.now 7 (omega arith) 43 45 _ _ c.minutes_at.ensures.0)
