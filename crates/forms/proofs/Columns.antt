-- The table of the forms is computed from their layouts.
use mathlib.Core.Path.{refl}
use Rattle.forms.specs.Carries.{carries_of}
use Rattle.forms.specs.Columns.{Table}
use Rattle.forms.specs.Places.{has}

pub table : Table
unfolding carries_of has
table =
    record {
      one = (refl, refl);
      two = (refl, refl);
      three = (refl, refl);
      four = (refl, refl);
      five = (refl, refl);
      six = (refl, refl);
      seven = (refl, refl);
      eight = (refl, refl);
      ten = (refl, refl);
      eleven = (refl, refl);
      twelve = (refl, refl);
    }
