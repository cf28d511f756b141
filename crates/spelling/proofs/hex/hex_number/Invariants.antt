-- The number so far is that of the bytes passed. It stays below 14 times the power of 16, since no byte has a value above 207.
use Rattle.spelling.specs.Bytes.{hex_value}
use Rattle.spelling.proofs.Steps.{Spelt}
use Rattle.spelling.proofs.hex.hex_number.Given as goal

abbrev pub invariant-loop-b : goal.invariant-loop-b
invariant-loop-b l = Spelt 14 16 hex_value l.s l.n l.b-index
