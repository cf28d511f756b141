-- The words of each layout are counted: all have one for every good record, but for the letter that change and leap share in form 1 and the
-- half hour of the frames.
use Rattle.cond.proofs.Kit.{◌%◌, ◌&&◌, ◌*◌, ◌+◌, ◌≡◌, arith, Bool, eq-eqb, eqb, eqb-false, eqb-true, false, ltb, ne_eqb, not, refl, sym, true, ℕ}
use Rattle.cond.specs.Pick.{one_if, pick}
use Rattle.cond.proofs.Tests.{both}
use Rattle.record.specs.Record.{in_range, is_good, is_yes, zone_agrees}
use Rattle.record.specs.declared.Record.{Record}
use Rattle.forms.specs.Encode.{encode}
use Rattle.forms.specs.Fields.Offset.{half_hour_of}
use Rattle.forms.specs.Form.{Form, is_expressible}
use Rattle.forms.specs.WriterNumbers.{has_no_word}

-- two words serve a yes or no field, three serve two fields that are not both yes
pub two : (b : Bool) → ltb (one_if b) 2 ≡ true
two true = refl
two false = refl

pub three : (a b : Bool) → ltb (one_if a * 2 + one_if b) 3 ≡ not (a && b)
three true true = refl
three true false = refl
three false true = refl
three false false = refl

-- two serve a half hour
pub half : (m : ℕ) → ltb (half_hour_of (m % 60)) 2 ≡ eqb (m % 30) 0
unfolding half_hour_of
half m = go (eqb (m % 60) 0) (eqb (m % 60) 30) refl refl
  where
    go : (a b : Bool) → eqb (m % 60) 0 ≡ a → eqb (m % 60) 30 ≡ b → ltb (pick a 0 (pick b 1 2)) 2 ≡ eqb (m % 30) 0
    go true b p q = let z = eqb-true (m % 60) 0 p in sym (eq-eqb (m % 30) 0 (omega arith))
    go false true p q = let z = eqb-true (m % 60) 30 q in sym (eq-eqb (m % 30) 0 (omega arith))
    go false false p q =
        let y = eqb-false (m % 60) 0 p in
        let z = eqb-false (m % 60) 30 q in
        sym (ne_eqb (m % 30) 0 (λ e. omega arith))

pub not_not : (b : Bool) → not (not b) ≡ b
not_not true = refl
not_not false = refl

-- the words of a form's layout are there but for row 9
abbrev pub Worded : ℕ → Form → Type 0
Worded n d = (r : Record) → is_good r ≡ true → is_expressible d.layout (encode r) ≡ not (has_no_word n r)

pub zoned : (r : Record) → is_good r ≡ true → not (is_yes r.utc && is_yes r.summer) ≡ true
unfolding is_good zone_agrees
zoned r g = (both (in_range r) _ g).1
