-- A good record has a letter for each field of a Standard string, but for change and leap both.
use Rattle.cond.proofs.Kit.{◌&&◌, ◌*◌, ◌+◌, ◌≡◌, and-true, Bool, false, ltb, not, refl, true}
use Rattle.cond.specs.Pick.{one_if}
use Rattle.record.specs.declared.Record.{Record}
use Rattle.record.specs.Record.{is_good, is_yes}
use Rattle.spelling.specs.Bytes.{letters}
use Rattle.forms.specs.Form.{is_expressible}
use Rattle.forms.specs.Places.{has_words, has}
use Rattle.forms.specs.Serial.{standard_layout}
use Rattle.forms.specs.Encode.{encode}
use Rattle.forms.proofs.Bounds.{good}

one_below : (a : Bool) → ltb (one_if a) 2 ≡ true
one_below true = refl
one_below false = refl

two_below : (a b : Bool) → ltb (one_if a * 2 + one_if b) 3 ≡ not (a && b)
two_below true true = refl
two_below true false = refl
two_below false true = refl
two_below false false = refl

-- there is a letter for each field but for change and leap both
letters_there : (s f u m c l : Bool) → not (u && m) ≡ true
    → (ltb (one_if s) 2 && (ltb (one_if f) 2 && (ltb (one_if u * 2 + one_if m) 3 && (ltb (one_if c * 2 + one_if l) 3 && true)))) ≡ not (c && l)
letters_there s f u m c l z = simp (one_below s, one_below f, two_below u m, z, two_below c l, and-true)

pub has_words_of : (r : Record) → is_good r ≡ true → is_expressible standard_layout (encode r) ≡ not (is_yes r.change && is_yes r.leap)
unfolding has_words has is_expressible letters
has_words_of r g =
    letters_there (is_yes r.sync) (is_yes r.fix) (is_yes r.utc) (is_yes r.summer) (is_yes r.change) (is_yes r.leap) (good r g).zoned
