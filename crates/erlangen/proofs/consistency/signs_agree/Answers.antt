-- Each sign is tested against the number that it stands on.
use Rattle.spelling.specs.Spelling.{value_of}
use Rattle.cond.proofs.Kit.{and_assoc, sym}
use Rattle.forms.specs.Fields.Offset.{decode_minutes}
use Rattle.forms.specs.Places.{values}
use Rattle.erlangen.proofs.Form.{signs_of}
use Rattle.erlangen.proofs.consistency.signs_agree.Goals as goal

pub returns : goal.returns
unfolding values value_of decode_minutes
returns c = simp and_assoc
    (simp (c.sign_agrees.ensures, c.sign_agrees-2.ensures, c.sign_agrees-3.ensures)
    (simp (c.minutes_at.ensures.0, c.degrees_at.ensures.0, c.degrees_at-2.ensures.0)
    (sym (signs_of c.args.s.now c.requires))))
