-- Each arm is the answer of its form's reader; any other number has no form.
use Rattle.forms.specs.Forms.{form_kind_of, read_as, serial_forms}
use Rattle.serial.proofs.Numbers.{no_form}
use Rattle.serial.proofs.read.Goals as goal

pub returns-in-1 : goal.returns-in-1
unfolding read_as form_kind_of
returns-in-1 c = rw c.in-1.is c.read.ensures

pub returns-in-2 : goal.returns-in-2
unfolding read_as form_kind_of
returns-in-2 c = rw c.in-2.is c.read-in-2.ensures

pub returns-in-3 : goal.returns-in-3
unfolding read_as form_kind_of
returns-in-3 c = rw c.in-3.is c.read-in-3.ensures

pub returns-in-4 : goal.returns-in-4
unfolding read_as form_kind_of
returns-in-4 c = rw c.in-4.is c.read-in-4.ensures

pub returns-in-5 : goal.returns-in-5
unfolding read_as form_kind_of
returns-in-5 c = rw c.in-5.is c.read-in-5.ensures

pub returns-in-6 : goal.returns-in-6
unfolding read_as form_kind_of
returns-in-6 c = rw c.in-6.is c.read-in-6.ensures

pub returns-in-7 : goal.returns-in-7
unfolding read_as form_kind_of
returns-in-7 c = rw c.in-7.is c.read-in-7.ensures

pub returns-in-10 : goal.returns-in-10
unfolding read_as form_kind_of
returns-in-10 c = rw c.in-10.is c.read-in-10.ensures

pub returns-in-12 : goal.returns-in-12
unfolding read_as form_kind_of
returns-in-12 c = rw c.in-12.is c.read-in-12.ensures

pub returns : goal.returns
unfolding read_as form_kind_of
returns c = rw (no_form serial_forms _ c.in_default.in_default-own.rest)
