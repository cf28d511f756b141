-- Each arm is what its form's writer did; any other number has no form.
use Rattle.cond.proofs.Kit.{◌≡◌, ap, ℕ}
use Rattle.forms.specs.Forms.{form_kind_of, serial_forms}
use Rattle.serial.proofs.Numbers.{no_form, wrote_nothing, wrote_sized}
use Rattle.serial.proofs.write.Goals as goal

form : {n k : ℕ} → n ≡ k → form_kind_of serial_forms n ≡ form_kind_of serial_forms k
form e = ap (form_kind_of serial_forms) e

pub returns-in-1 : goal.returns-in-1
unfolding form_kind_of
returns-in-1 c = wrote_sized (form c.in-1.is) c.write.ensures

pub returns-in-2 : goal.returns-in-2
unfolding form_kind_of
returns-in-2 c = wrote_sized (form c.in-2.is) c.write-in-2.ensures

pub returns-in-3 : goal.returns-in-3
unfolding form_kind_of
returns-in-3 c = wrote_sized (form c.in-3.is) c.write-in-3.ensures

pub returns-in-4 : goal.returns-in-4
unfolding form_kind_of
returns-in-4 c = wrote_sized (form c.in-4.is) c.write-in-4.ensures

pub returns-in-5 : goal.returns-in-5
unfolding form_kind_of
returns-in-5 c = wrote_sized (form c.in-5.is) c.write-in-5.ensures

pub returns-in-6 : goal.returns-in-6
unfolding form_kind_of
returns-in-6 c = wrote_sized (form c.in-6.is) c.write-in-6.ensures

pub returns-in-7 : goal.returns-in-7
unfolding form_kind_of
returns-in-7 c = wrote_sized (form c.in-7.is) c.write-in-7.ensures

pub returns-in-10 : goal.returns-in-10
unfolding form_kind_of
returns-in-10 c = wrote_sized (form c.in-10.is) c.write-in-10.ensures

pub returns-in-12 : goal.returns-in-12
unfolding form_kind_of
returns-in-12 c = wrote_sized (form c.in-12.is) c.write-in-12.ensures

pub returns-in_default : goal.returns-in_default
unfolding form_kind_of
returns-in_default c = wrote_nothing (no_form serial_forms _ c.in_default.in_default-own.rest)
