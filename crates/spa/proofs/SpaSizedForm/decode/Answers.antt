-- Each number is a call, and the layout carries a full date and thousandths alone.
use Rattle.forms.specs.Carries.{carries_of}
use Rattle.forms.specs.Decode.{decode_channel, decode_date, decode_flag, decode_fraction, decode_minutes, decode_offset, decode_position}
use Rattle.forms.specs.Places.{has, values}
use Rattle.spa.proofs.SpaSizedForm.decode.Goals as goal

pub returns : goal.returns
unfolding carries_of has values decode_date decode_fraction decode_channel decode_flag decode_offset decode_position decode_minutes
returns c = simp (c.number_at.ensures.0, c.number_at-2.ensures.0)
    (simp (c.number_at-3.ensures.0, c.number_at-4.ensures.0, c.number_at-5.ensures.0)
    (simp (c.number_at-6.ensures.0, c.number_at-7.ensures.0, c.empty.ensures)))
