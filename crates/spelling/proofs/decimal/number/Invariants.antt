-- The number so far is that of the bytes passed. It stays below 2 times the power of 10, since no byte has a value above 15.
use Rattle.spelling.specs.Bytes.{digit_value}
use Rattle.spelling.proofs.Steps.{Spelt}
use Rattle.spelling.proofs.decimal.number.Given as goal

abbrev pub invariant-loop-b : goal.invariant-loop-b
invariant-loop-b l = Spelt 2 10 digit_value l.s l.n l.b-index
