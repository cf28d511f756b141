-- The number is one of 32 bits, and its minus is the sign by its rule.
use Rattle.std.specs.Prelude.{Some}
use Rattle.cond.proofs.Kit.{◌∙◌, ap, arith, rules, SFits, to_z-of_z, w32}
use Rattle.spelling.specs.Bytes.{groups_width}
use Rattle.record.proofs.Signs.{signed_small}
use Rattle.forms.specs.Places.{values}
use Rattle.frame.proofs.Form.{sign_read, sign_test}
use Rattle.frame.proofs.decoding.offset_at.Goals as goal

pub returns : goal.returns
unfolding values groups_width
returns c = let fits : SFits w32 c.signed_number.result = search rules in
    ap Some (to_z-of_z fits ∙ c.signed_number.ensures ∙ signed_small _ _ (omega (arith, c.offset_minutes.ensures.1)))
    ∙ simp (c.minus_by-minus.ensures, sign_test, c.number_at.ensures.0, c.offset_minutes.ensures.0) (sign_read c.args.rule _ _)
