-- An SPA string has no words.
use Rattle.cond.proofs.Kit.{refl, sym}
use Rattle.forms.specs.Places.{has}
use Rattle.forms.specs.Serial.{spa_layout}
use Rattle.places.proofs.Wrote.{always_expressible, always_has_words, layout_has_words}
use Rattle.spa.proofs.SpaSizedForm.is_expressible.Goals as goal

pub returns : goal.returns
unfolding always_expressible always_has_words has
returns c good = sym (layout_has_words spa_layout refl c.args._told good)
