-- The shape of a serial form's strings: "n is the form's length", and the bytes that its layout starts and ends with.
use Rattle.std.specs.Prelude.{ℕ}
use Rattle.forms.specs.Valid.{end_of, length_of, start_of}
use Rattle.serial.specs.declared.Shape.{Shape}

abbrev pub shaped : ℕ → ℕ → ℕ → Shape
shaped length start end = record { length = length; start = start; end = end }

abbrev pub shape_of : ℕ → Shape
shape_of form = shaped (length_of form) (start_of form) (end_of form)

-- no string of a serial form is longer: as many bytes as a listener holds
abbrev pub longest : ℕ
longest = 66
