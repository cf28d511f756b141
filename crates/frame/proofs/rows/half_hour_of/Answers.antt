-- The tests are those of the definition.
use Rattle.cond.proofs.Kit.{eq-eqb, ne_eqb}
use Rattle.forms.specs.Fields.Offset.{half_hour_of}
use Rattle.frame.proofs.rows.half_hour_of.Goals as goal

pub returns-then-rest-eq0 : goal.returns-then-rest-eq0
unfolding half_hour_of
returns-then-rest-eq0 c = simp (← c.minutes_of-rest.ensures, eq-eqb _ 0 c.if-rest-eq0.true)

pub returns-then-rest-eq30 : goal.returns-then-rest-eq30
unfolding half_hour_of
returns-then-rest-eq30 c = simp (← c.minutes_of-rest.ensures, ne_eqb _ 0 c.if-rest-eq0.false, eq-eqb _ 30 c.if-rest-eq30.true)

pub returns : goal.returns
unfolding half_hour_of
returns c = simp (← c.minutes_of-rest.ensures, ne_eqb _ 0 c.if-rest-eq0.false, ne_eqb _ 30 c.if-rest-eq30.false)
