-- Each case of the field has its own variant, which the callee stores.
use Rattle.std.specs.Prelude.{Some}
use Rattle.cond.proofs.Kit.{◌≡◌, ap, arith, rules}
use Rattle.record.specs.declared.Fraction.TheVariants as FractionIs
use Rattle.forms.specs.Encode.{encode}
use Rattle.forms.specs.Fields.Fraction.{encode_hundredths, encode_ten_millionths, encode_thousandths}
use Rattle.forms.specs.Slots.{hundredth, ten_millionth, thousandth}
use Rattle.forms.specs.Places.{layout_width}
use Rattle.block_lines.proofs.Laid.{within}
use Rattle.block_lines.proofs.fraction.write_fraction.Goals as goal

pub returns-in-None : goal.returns-in-None
returns-in-None c = simp c.in-None.is (within _ _ _ _ _ _ (c.put_word.ensures (encode c.args.r)) (unfold layout_width in omega arith))

pub returns-in-Some-Thousandths : goal.returns-in-Some-Thousandths
returns-in-Some-Thousandths c = let q : c.args.r.fraction ≡ Some (FractionIs.Thousandths c.in-Some-Thousandths.n) = search rules in
    simp q (within _ _ _ _ _ _ (c.put_number.ensures thousandth (encode c.args.r) (ap encode_thousandths q)) (unfold layout_width in omega arith))

pub returns-in-Some-TenMillionths : goal.returns-in-Some-TenMillionths
returns-in-Some-TenMillionths c = let q : c.args.r.fraction ≡ Some (FractionIs.TenMillionths c.in-Some-TenMillionths.n) = search rules in
    simp q (within _ _ _ _ _ _ (c.put_number-in-Some-TenMillionths.ensures ten_millionth (encode c.args.r) (ap encode_ten_millionths q)) (unfold layout_width in omega arith))

pub returns-in-Some-Hundredths : goal.returns-in-Some-Hundredths
returns-in-Some-Hundredths c = let q : c.args.r.fraction ≡ Some (FractionIs.Hundredths c.in-Some-Hundredths.n) = search rules in
    simp q (within _ _ _ _ _ _ (c.put_number-in-Some-Hundredths.ensures hundredth (encode c.args.r) (ap encode_hundredths q)) (unfold layout_width in omega arith))
