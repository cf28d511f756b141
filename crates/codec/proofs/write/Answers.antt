-- The frames and the block have writers of their own; any other number is that of a serial form or of none.
use Rattle.cond.proofs.Kit.{◌∙◌, ap, sym}
use Rattle.forms.specs.Forms.{all_forms, form_kind_of, sized}
use Rattle.forms.specs.Frame.{frame}
use Rattle.serial.proofs.Numbers.{wrote_sized}
use Rattle.codec.proofs.Numbers.{frame_form_lem, other_form, wrote_block}
use Rattle.codec.proofs.write.Goals as goal

pub returns-in-8 : goal.returns-in-8
unfolding form_kind_of
returns-in-8 c = wrote_sized (frame_form_lem _ c.in-8.is ∙ ap (λ x. sized (frame x)) (sym c.sign_rule.ensures)) c.write.ensures

pub returns-in-9 : goal.returns-in-9
unfolding form_kind_of
returns-in-9 c = wrote_block (ap (form_kind_of all_forms) c.in-9.is) c.write-in-9.ensures

pub returns-in_default : goal.returns-in_default
unfolding form_kind_of
returns-in_default c = rw (other_form _ c.in_default.in_default-own.rest) c.write-in_default.ensures
