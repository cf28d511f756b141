-- Each field is a call; a flag's letter for no comes first.
use Rattle.cond.proofs.Kit.{arith}
use Rattle.forms.specs.Carries.{carries_of}
use Rattle.forms.specs.Decode.{decode_channel, decode_flag, decode_fraction}
use Rattle.forms.specs.Places.{has, values}
use Rattle.places.proofs.Letters.{flag_letter}
use Rattle.erlangen.proofs.ErlangenSizedForm.decode.Goals as goal

pub returns : goal.returns
unfolding carries_of has values decode_fraction decode_channel decode_flag
returns c = let s = c.args.s.now in
    let l = c.requires in
    simp (c.number_at.ensures.0, c.number_at-2.ensures.0)
    (simp (c.number_at-3.ensures.0, c.date_at.ensures, c.flag_at.ensures)
    (simp (c.flag_at-2.ensures, c.flag_at-3.ensures)
    (simp (c.flag_at-4.ensures, c.flag_at-5.ensures)
    (simp (c.offset_at.ensures, c.position_at.ensures, c.empty.ensures)
    (simp (flag_letter s 32 (omega arith) 35 32, flag_letter s 33 (omega arith) 42 32, flag_letter s 34 (omega arith) 32 83)
    (simp (flag_letter s 35 (omega arith) 32 33, flag_letter s 36 (omega arith) 32 65)))))))
