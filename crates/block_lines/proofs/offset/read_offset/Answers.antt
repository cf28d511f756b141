-- The first variant that fits decides, and what it tells is a call each.
use Rattle.cond.proofs.Kit.{[], get_or, lit≤, refl}
use Rattle.forms.specs.Block.{offset_line}
use Rattle.forms.specs.Places.{layout_width}
use Rattle.block_lines.proofs.Closed.{fits_within, is_closed}
use Rattle.block_lines.proofs.offset.read_offset.Goals as goal

pub offset_at-offset-requires : goal.offset_at-offset-requires
offset_at-offset-requires c = unfold is_closed layout_width in fits_within (get_or offset_line 1 []) _ refl _ c.has_offset.ensures c.if-has_offset.true (lit≤ tt)

pub consistent_at-requires : goal.consistent_at-requires
consistent_at-requires c = unfold is_closed layout_width in fits_within (get_or offset_line 1 []) _ refl _ c.has_offset.ensures
    c.if-has_offset.true (lit≤ tt)
