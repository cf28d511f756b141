-- Each number names its kind; any other names none.
use Rattle.cond.proofs.Kit.{ne_eqb}
use Rattle.flat_record.specs.Decode.{kind_of}
use Rattle.flat_record.proofs.decode.kind_of.Goals as goal

pub returns-in-0 : goal.returns-in-0
unfolding kind_of
returns-in-0 c = simp c.in-0.is

pub returns-in-1 : goal.returns-in-1
unfolding kind_of
returns-in-1 c = simp c.in-1.is

pub returns-in-2 : goal.returns-in-2
unfolding kind_of
returns-in-2 c = simp c.in-2.is

pub returns-in-3 : goal.returns-in-3
unfolding kind_of
returns-in-3 c = simp c.in-3.is

pub returns-in_default : goal.returns-in_default
unfolding kind_of
returns-in_default c = let h = c.in_default.in_default-own.rest in
    simp (ne_eqb _ _ h.0.0.0.1, ne_eqb _ _ h.0.0.1, ne_eqb _ _ h.0.1, ne_eqb _ _ h.1)
