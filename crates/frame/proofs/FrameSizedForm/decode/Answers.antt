-- Each field is a call, and an element that is 0 means no; the offset alone hangs on the sign rule.
use Rattle.cond.proofs.Kit.{◌∙◌, arith, refl, sym}
use Rattle.spelling.specs.Bytes.{groups_limit, groups_width}
use Rattle.forms.specs.Carries.{carries_of}
use Rattle.forms.specs.Decode.{decode_channel, decode_date, decode_flag, decode_fraction, decode_minutes, decode_offset, decode_position}
use Rattle.forms.specs.Places.{has, values}
use Rattle.forms.proofs.Opposites.{decoded_by_lem}
use Rattle.frame.proofs.Form.{flag_bit}
use Rattle.frame.proofs.FrameSizedForm.decode.Goals as goal

pub returns : goal.returns
unfolding carries_of has values groups_limit groups_width decode_date decode_fraction decode_channel decode_flag decode_offset decode_position decode_minutes
returns c = let a = c.args in
    let s = a.s.now in
    let l = c.requires in
    simp (c.pair_number.ensures.0 0 refl, c.pair_number-2.ensures.0 0 refl)
    (simp (c.pair_number-3.ensures.0 0 refl, c.date_at.ensures, c.sync_at.ensures)
    (simp (c.flag_at.ensures, c.offset_at.ensures)
    (simp (c.flag_at-2.ensures, c.flag_at-3.ensures, c.empty.ensures)
    (simp (flag_bit s 63 (omega arith), flag_bit s 62 (omega arith), flag_bit s 60 (omega arith))))))
    ∙ sym (decoded_by_lem a.self.now.rule s)
