-- Found so far or among the letters still to be compared.
use Rattle.cond.proofs.Kit.{◌||◌, ◌≡◌, drop}
use Rattle.spelling.proofs.Steps.{among}
use Rattle.spelling.proofs.compare.is_among.Given as goal

abbrev pub invariant-loop-choice : goal.invariant-loop-choice
invariant-loop-choice l = among l.b l.choices ≡ (l.found || among l.b (drop l.choice-index l.choices))
