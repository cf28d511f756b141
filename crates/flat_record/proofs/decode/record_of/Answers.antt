-- Each answer is that of the tests before it; numbers that passed them are a record.
use Rattle.cond.proofs.Kit.{◌∙◌, eq-eqb, ne_eqb, rules, sym}
use Rattle.flat_record.proofs.Flat.{flat_fits}
use Rattle.flat_record.specs.Decode.{record_of}
use Rattle.flat_record.proofs.decode.record_of.Goals as goal

pub returns-then-n-ne-SIZE : goal.returns-then-n-ne-SIZE
unfolding record_of
returns-then-n-ne-SIZE c = simp (ne_eqb _ _ c.if-n-ne-SIZE.true)

pub record_at-requires : goal.record_at-requires
unfolding record_of
record_at-requires c = (search rules, flat_fits _ (sym c.is_flat.ensures ∙ c.if-not-is_flat.false))

pub returns : goal.returns
unfolding record_of
returns c = simp (eq-eqb _ _ c.if-n-ne-SIZE.false, sym c.is_flat.ensures ∙ c.if-not-is_flat.false, c.record_at.ensures)

pub returns-then-not-is_flat : goal.returns-then-not-is_flat
unfolding record_of
returns-then-not-is_flat c = simp (eq-eqb _ _ c.if-n-ne-SIZE.false, sym c.is_flat.ensures ∙ c.if-not-is_flat.true)
