-- Each number and the letter is a call, and the layout carries the day of year and sync alone.
use Rattle.cond.proofs.Kit.{arith}
use Rattle.forms.specs.Carries.{carries_of}
use Rattle.forms.specs.Decode.{decode_channel, decode_date, decode_flag, decode_fraction, decode_minutes, decode_offset, decode_position}
use Rattle.forms.specs.Places.{has, values}
use Rattle.places.proofs.Letters.{flag_letter}
use Rattle.sysplex.proofs.SysplexSizedForm.decode.Goals as goal

pub returns : goal.returns
unfolding carries_of has values decode_date decode_fraction decode_channel decode_flag decode_offset decode_position decode_minutes
returns c = simp (c.number_at.ensures.0, c.number_at-2.ensures.0, c.number_at-3.ensures.0)
    (simp (c.number_at-4.ensures.0, c.flag_at.ensures, c.empty.ensures)
    (simp (flag_letter c.args.s.now 13 (omega arith) 63 32)))
