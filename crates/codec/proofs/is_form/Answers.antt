-- The frames and the block are forms; any other number is that of a serial form, which has a length, or of none.
use Rattle.forms.specs.Forms.{form_kind_of}
use Rattle.codec.proofs.Numbers.{frame_form_lem, known_serial, other_form}
use Rattle.codec.proofs.is_form.Goals as goal

pub returns-in-8 : goal.returns-in-8
unfolding form_kind_of
returns-in-8 c = rw (frame_form_lem _ c.in-8.is)

pub returns-in-9 : goal.returns-in-9
unfolding form_kind_of
returns-in-9 c = rw c.in-9.is

pub returns-in_default : goal.returns-in_default
unfolding form_kind_of
returns-in_default c = rw (other_form _ c.in_default.in_default-own.rest, known_serial, c.length_of.ensures)
