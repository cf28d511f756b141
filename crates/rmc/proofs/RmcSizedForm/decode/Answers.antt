-- Each number is a call, the letter for no comes first, and the position is a call of its own.
use Rattle.cond.proofs.Kit.{arith}
use Rattle.forms.specs.Carries.{carries_of}
use Rattle.forms.specs.Decode.{decode_channel, decode_date, decode_flag, decode_fraction, decode_offset}
use Rattle.forms.specs.Places.{has, values}
use Rattle.places.proofs.Letters.{flag_letter}
use Rattle.rmc.proofs.RmcSizedForm.decode.Goals as goal

pub returns : goal.returns
unfolding carries_of has values decode_date decode_fraction decode_channel decode_flag decode_offset
returns c = let s = c.args.s.now in
    let l = c.requires in
    simp (c.number_at.ensures.0, c.number_at-2.ensures.0, c.number_at-3.ensures.0, c.number_at-4.ensures.0)
    (simp (c.number_at-5.ensures.0, c.number_at-6.ensures.0, c.number_at-7.ensures.0, c.flag_at.ensures)
    (simp (c.position_at.ensures, c.empty.ensures, flag_letter s 17 (omega arith) 86 65)))
