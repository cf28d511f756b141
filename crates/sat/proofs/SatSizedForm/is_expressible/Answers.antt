-- A SAT string has a word for every good record.
use Rattle.cond.proofs.Kit.{refl, sym}
use Rattle.spelling.specs.Bytes.{letters}
use Rattle.forms.specs.Places.{has}
use Rattle.forms.specs.Serial.{sat_layout}
use Rattle.forms.proofs.Limits.{bound}
use Rattle.places.proofs.Wrote.{always_expressible, always_has_words, layout_has_words}
use Rattle.sat.proofs.SatSizedForm.is_expressible.Goals as goal

pub returns : goal.returns
unfolding always_expressible always_has_words has bound letters
returns c good = sym (layout_has_words sat_layout refl c.args._told good)
