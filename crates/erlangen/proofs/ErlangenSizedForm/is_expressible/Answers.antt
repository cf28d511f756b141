-- The two letters of a flag are as many as its values.
use Rattle.cond.proofs.Kit.{refl, sym}
use Rattle.spelling.specs.Bytes.{letters}
use Rattle.forms.specs.Places.{has}
use Rattle.forms.specs.Serial.{erlangen_layout}
use Rattle.forms.proofs.Limits.{bound}
use Rattle.places.proofs.Wrote.{always_expressible, always_has_words, layout_has_words}
use Rattle.erlangen.proofs.ErlangenSizedForm.is_expressible.Goals as goal

pub returns : goal.returns
unfolding always_expressible always_has_words has bound letters
returns c good = sym (layout_has_words erlangen_layout refl c.args._told good)
