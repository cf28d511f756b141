-- Each number has its form's length, first and last byte, computed from the form's layout; any other number has no form.
use Rattle.cond.proofs.Kit.{◌∙◌, ap, sym}
use Rattle.forms.specs.Forms.{form_kind_of, serial_forms}
use Rattle.forms.specs.Valid.{end_of, length_of, start_of}
use Rattle.serial.specs.Shape.{shape_of}
use Rattle.serial.proofs.Numbers.{no_form}
use Rattle.serial.proofs.shape_of.Goals as goal

pub returns-in-1 : goal.returns-in-1
unfolding length_of start_of end_of form_kind_of
returns-in-1 c = c.shaped.ensures ∙ sym (ap shape_of c.in-1.is)

pub returns-in-2 : goal.returns-in-2
unfolding length_of start_of end_of form_kind_of
returns-in-2 c = c.shaped-in-2.ensures ∙ sym (ap shape_of c.in-2.is)

pub returns-in-3 : goal.returns-in-3
unfolding length_of start_of end_of form_kind_of
returns-in-3 c = c.shaped-in-3.ensures ∙ sym (ap shape_of c.in-3.is)

pub returns-in-4 : goal.returns-in-4
unfolding length_of start_of end_of form_kind_of
returns-in-4 c = c.shaped-in-4.ensures ∙ sym (ap shape_of c.in-4.is)

pub returns-in-5 : goal.returns-in-5
unfolding length_of start_of end_of form_kind_of
returns-in-5 c = c.shaped-in-5.ensures ∙ sym (ap shape_of c.in-5.is)

pub returns-in-6 : goal.returns-in-6
unfolding length_of start_of end_of form_kind_of
returns-in-6 c = c.shaped-in-6.ensures ∙ sym (ap shape_of c.in-6.is)

pub returns-in-7 : goal.returns-in-7
unfolding length_of start_of end_of form_kind_of
returns-in-7 c = c.shaped-in-7.ensures ∙ sym (ap shape_of c.in-7.is)

pub returns-in-10 : goal.returns-in-10
unfolding length_of start_of end_of form_kind_of
returns-in-10 c = c.shaped-in-10.ensures ∙ sym (ap shape_of c.in-10.is)

pub returns-in-12 : goal.returns-in-12
unfolding length_of start_of end_of form_kind_of
returns-in-12 c = c.shaped-in-12.ensures ∙ sym (ap shape_of c.in-12.is)

pub returns-in_default : goal.returns-in_default
unfolding length_of start_of end_of form_kind_of
returns-in_default c = c.shaped-in_default.ensures ∙ rw (no_form serial_forms _ c.in_default.in_default-own.rest)
