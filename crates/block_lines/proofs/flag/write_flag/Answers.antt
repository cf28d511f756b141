-- Each case of the field has its own word.
use Rattle.std.specs.Prelude.{Some, true, false}
use Rattle.cond.proofs.Kit.{◌∙◌, ◌≡◌, arith, rules, sym}
use Rattle.forms.specs.Encode.{encode}
use Rattle.forms.specs.Places.{layout_width}
use Rattle.block_lines.specs.Flags.{flag_in, flag_slot}
use Rattle.block_lines.proofs.Laid.{within}
use Rattle.block_lines.proofs.flag.write_flag.Goals as goal

pub returns-in-None : goal.returns-in-None
returns-in-None c = simp (sym c.flag_of.ensures ∙ c.in-None.is) (within _ _ _ _ _ _ (c.put_word.ensures (encode c.args.r)) (unfold layout_width in omega arith))

pub returns-in-Some-false : goal.returns-in-Some-false
returns-in-Some-false c = let q : flag_in (flag_slot c.args.flag) c.args.r ≡ Some false = search rules in
    simp q (within _ _ _ _ _ _ (c.put_word-in-Some-false.ensures (encode c.args.r)) (unfold layout_width in omega arith))

pub returns-in-Some-true : goal.returns-in-Some-true
returns-in-Some-true c = let q : flag_in (flag_slot c.args.flag) c.args.r ≡ Some true = search rules in
    simp q (within _ _ _ _ _ _ (c.put_word-in-Some-true.ensures (encode c.args.r)) (unfold layout_width in omega arith))
