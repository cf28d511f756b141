-- The number so far is that of the elements behind. It stays below 255 times the power of 2, since no element is above 255.
use Rattle.spelling.proofs.Steps.{Behind}
use Rattle.spelling.proofs.elements.bits_number.Given as goal

abbrev pub invariant-loop-bit : goal.invariant-loop-bit
invariant-loop-bit l = Behind l.s l.bit-iterator.iter.rest.now l.n
