-- Each case of the field has its own variant, which the callee stores.
use Rattle.std.specs.Prelude.{Some}
use Rattle.cond.proofs.Kit.{◌≡◌, arith, rules}
use Rattle.record.specs.declared.Position.TheVariants as PositionIs
use Rattle.forms.specs.Encode.{encode}
use Rattle.forms.specs.Places.{layout_width}
use Rattle.block_lines.proofs.Laid.{within}
use Rattle.block_lines.proofs.position.write_position.Goals as goal

pub returns-in-None : goal.returns-in-None
returns-in-None c = simp c.in-None.is (within _ _ _ _ _ _ (c.put_word.ensures (encode c.args.r)) (unfold layout_width in omega arith))

pub returns-in-Some-Degrees : goal.returns-in-Some-Degrees
returns-in-Some-Degrees c = let d = c.in-Some-Degrees in
    let q : c.args.r.position ≡ Some (PositionIs.Degrees d.field-0-0 d.field-0-1 d.field-0-2) = search rules in
    simp q (within _ _ _ _ _ _ c.put_position.ensures (unfold layout_width in omega arith))

pub returns-in-Some-Minutes : goal.returns-in-Some-Minutes
returns-in-Some-Minutes c = let d = c.in-Some-Minutes in
    let q : c.args.r.position ≡ Some (PositionIs.Minutes d.field-0-0 d.field-0-1) = search rules in
    simp q (within _ _ _ _ _ _ c.put_position-in-Some-Minutes.ensures (unfold layout_width in omega arith))
