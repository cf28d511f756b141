-- No valid string stands from the start to the place reached, so that the answer is the one from there on.
use Rattle.search.proofs.Places.{Reached}
use Rattle.search.proofs.search.Given as goal

abbrev pub invariant-loop-p : goal.invariant-loop-p
invariant-loop-p l = Reached l.form l.n l.s l.start l.p
