-- The tests are those of the words, one after the other.
use Rattle.forms.specs.Slots.{half_hour}
use Rattle.frame.specs.Layouts.{told}
use Rattle.forms.proofs.Layouts.{piece_length}
use Rattle.spelling.proofs.Spelling.{sized_value}
use Rattle.spelling.specs.Spelling.{words}
use Rattle.cond.proofs.Kit.{◌∙◌, arith, sym, [], ◌∷◌, ◌≡◌, drop, length, List, take, ℕ}
use Rattle.spelling.specs.Bytes.{groups_width, word_place}
use Rattle.forms.specs.Places.{values}
use Rattle.frame.proofs.decoding.half_hour.Goals as goal

-- what the element tells is its place among the words
half : (s : List ℕ) → length s ≡ 100 → told s half_hour ≡ word_place ((0 ∷ []) ∷ (1 ∷ []) ∷ []) (take 1 (drop 70 s))
unfolding values groups_width
half s l = sized_value _ (words 1 ((0 ∷ []) ∷ (1 ∷ []) ∷ [])) (piece_length 70 s 1 (omega arith))

pub returns-then-is_at : goal.returns-then-is_at
unfolding word_place
returns-then-is_at c = (sym (half c.args.s.now c.requires ∙ simp (sym c.is_at.ensures ∙ c.if-is_at.true)), omega arith)

pub returns-then-is_at-2 : goal.returns-then-is_at-2
unfolding word_place
returns-then-is_at-2 c = (sym (half c.args.s.now c.requires ∙ simp (sym c.is_at.ensures ∙ c.if-is_at.false, sym c.is_at-2.ensures ∙ c.if-is_at-2.true)), omega arith)

pub returns : goal.returns
unfolding word_place
returns c = (sym (half c.args.s.now c.requires ∙ simp (sym c.is_at.ensures ∙ c.if-is_at.false, sym c.is_at-2.ensures ∙ c.if-is_at-2.false)), omega arith)
