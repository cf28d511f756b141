-- The frames and the block have readers of their own; any other number is that of a serial form or of none.
use Rattle.cond.proofs.Kit.{◌∙◌, ap}
use Rattle.forms.specs.Form.{read_by}
use Rattle.forms.specs.Forms.{form_kind_of, read_as, read_form}
use Rattle.forms.specs.Frame.{frame}
use Rattle.codec.proofs.Numbers.{frame_form_lem, other_form}
use Rattle.codec.proofs.read.Goals as goal

pub returns-in-8 : goal.returns-in-8
unfolding read_form read_as form_kind_of
returns-in-8 c = let s = c.args.input.now in
    rw (frame_form_lem _ c.in-8.is) (c.read.ensures ∙ ap (λ x. read_by (frame x) s) c.sign_rule.ensures)

pub returns-in-9 : goal.returns-in-9
unfolding read_form read_as form_kind_of
returns-in-9 c = rw c.in-9.is c.read-in-9.ensures

pub returns-in_default : goal.returns-in_default
unfolding read_form read_as form_kind_of
returns-in_default c = rw (other_form _ c.in_default.in_default-own.rest) c.read-in_default.ensures
