-- The first variant that fits decides, and what it tells is a call each.
use Rattle.cond.proofs.Kit.{[], ◌∙◌, drop, get_or, sym, take}
use Rattle.forms.specs.Block.{fraction_line, variant_at}
use Rattle.forms.specs.Carries.{carries_of}
use Rattle.forms.specs.Fields.Fraction.{decode_fraction}
use Rattle.forms.specs.Places.{has, layout_width, shape, values}
use Rattle.forms.specs.Slots.{hundredth, ten_millionth, thousandth}
use Rattle.block_lines.specs.Reading.{decoded, has_any, line_read, onto}
use Rattle.block_lines.proofs.Variant.{line_found}
use Rattle.block_lines.proofs.fraction.read_fraction.Goals as goal

pub returns-then-has_word : goal.returns-then-has_word
unfolding line_read variant_at onto decoded has_any carries_of has values layout_width shape decode_fraction
returns-then-has_word c = simp (sym c.has_word.ensures ∙ c.if-has_word.true)

pub returns-then-has_number : goal.returns-then-has_number
unfolding line_read variant_at onto decoded has_any carries_of has values layout_width shape decode_fraction
returns-then-has_number c = simp (
  c.number_at.ensures.0,
  sym (c.has_number.ensures thousandth) ∙ c.if-has_number.true,
  sym c.has_word.ensures ∙ c.if-has_word.false,
)

pub returns-then-has_number-2 : goal.returns-then-has_number-2
unfolding line_read variant_at onto decoded has_any carries_of has values layout_width shape decode_fraction
returns-then-has_number-2 c = let s = c.args.s.now in
    rw c.number_at-then-has_number-2.ensures.0
    (line_found s (take 2 fraction_line) (drop 3 fraction_line) (get_or fraction_line 2 []) _
    (sym c.has_word.ensures ∙ c.if-has_word.false, (sym (c.has_number.ensures thousandth) ∙ c.if-has_number.false, tt))
    (sym (c.has_number-2.ensures ten_millionth) ∙ c.if-has_number-2.true))

pub returns-then-has_number-3 : goal.returns-then-has_number-3
unfolding line_read variant_at onto decoded has_any carries_of has values layout_width shape decode_fraction
returns-then-has_number-3 c = let s = c.args.s.now in
    rw c.number_at-then-has_number-3.ensures.0
    (line_found s (take 3 fraction_line) [] (get_or fraction_line 3 []) _
    (sym c.has_word.ensures ∙ c.if-has_word.false, (sym (c.has_number.ensures thousandth) ∙ c.if-has_number.false, (sym (c.has_number-2.ensures ten_millionth) ∙ c.if-has_number-2.false, tt)))
    (sym (c.has_number-3.ensures hundredth) ∙ c.if-has_number-3.true))

pub returns : goal.returns
unfolding line_read variant_at onto decoded has_any carries_of has values layout_width shape decode_fraction
returns c = simp (
  sym (c.has_number-3.ensures hundredth) ∙ c.if-has_number-3.false,
  sym (c.has_number-2.ensures ten_millionth) ∙ c.if-has_number-2.false,
  sym (c.has_number.ensures thousandth) ∙ c.if-has_number.false,
  sym c.has_word.ensures ∙ c.if-has_word.false,
)
