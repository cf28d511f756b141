-- The first variant that fits decides, and what it tells is a call each.
use Rattle.cond.proofs.Kit.{[], ◌∙◌, get_or, lit≤, refl, sym}
use Rattle.forms.specs.Block.{position_line, variant_at}
use Rattle.forms.specs.Carries.{carries_of}
use Rattle.forms.specs.Places.{has, layout_width, values}
use Rattle.block_lines.specs.Reading.{decoded, has_any, line_read, onto}
use Rattle.block_lines.proofs.Closed.{fits_within, is_closed}
use Rattle.block_lines.proofs.position.read_position.Goals as goal

pub returns-then-has_word : goal.returns-then-has_word
unfolding line_read variant_at onto decoded has_any carries_of has values layout_width
returns-then-has_word c = simp (sym c.has_word.ensures ∙ c.if-has_word.true)

pub position_at-position-requires : goal.position_at-position-requires
unfolding line_read variant_at onto decoded has_any carries_of has values layout_width
position_at-position-requires c = unfold is_closed layout_width in fits_within (get_or position_line 1 []) _ refl _ c.has_position.ensures c.if-has_position.true (lit≤ tt)

pub consistent_at-place-requires : goal.consistent_at-place-requires
unfolding line_read variant_at onto decoded has_any carries_of has values layout_width
consistent_at-place-requires c = unfold is_closed layout_width in fits_within (get_or position_line 1 []) _ refl _ c.has_position.ensures c.if-has_position.true (lit≤ tt)

pub returns-then-has_position : goal.returns-then-has_position
unfolding line_read variant_at onto decoded has_any carries_of has values layout_width
returns-then-has_position c = simp (
  c.consistent_at-place.ensures,
  c.position_at-position.ensures,
  sym c.has_position.ensures ∙ c.if-has_position.true,
  sym c.has_word.ensures ∙ c.if-has_word.false,
)

pub position_at-position-requires-then-has_position-2 : goal.position_at-position-requires-then-has_position-2
unfolding line_read variant_at onto decoded has_any carries_of has values layout_width
position_at-position-requires-then-has_position-2 c = unfold is_closed layout_width in fits_within (get_or position_line 2 []) _ refl _ c.has_position-2.ensures c.if-has_position-2.true (lit≤ tt)

pub consistent_at-place-requires-then-has_position-2 : goal.consistent_at-place-requires-then-has_position-2
unfolding line_read variant_at onto decoded has_any carries_of has values layout_width
consistent_at-place-requires-then-has_position-2 c = unfold is_closed layout_width in fits_within (get_or position_line 2 []) _ refl _ c.has_position-2.ensures c.if-has_position-2.true (lit≤ tt)

pub returns-then-has_position-2 : goal.returns-then-has_position-2
unfolding line_read variant_at onto decoded has_any carries_of has values layout_width
returns-then-has_position-2 c = simp (
  c.arcs_in_range-arc.ensures,
  c.consistent_at-place-then-has_position-2.ensures,
  c.position_at-position-then-has_position-2.ensures,
  sym c.has_position-2.ensures ∙ c.if-has_position-2.true,
  sym c.has_position.ensures ∙ c.if-has_position.false,
  sym c.has_word.ensures ∙ c.if-has_word.false,
)

pub returns : goal.returns
unfolding line_read variant_at onto decoded has_any carries_of has values layout_width
returns c = simp (
  sym c.has_position-2.ensures ∙ c.if-has_position-2.false,
  sym c.has_position.ensures ∙ c.if-has_position.false,
  sym c.has_word.ensures ∙ c.if-has_word.false,
)
