-- The bytes passed stand as they are, and those from there on, blanked with the last one behind them, make up what is asked for.
use Rattle.cond.proofs.Kit.{◌++◌, ◌≡◌, drop, take}
use Rattle.spelling.specs.Bytes.{blanked}
use Rattle.spelling.proofs.padding.blank_zeros.Given as goal

abbrev pub invariant-loop-digit : goal.invariant-loop-digit
invariant-loop-digit l = take l.digit-index l.digit-items ++ blanked (drop l.digit-index l.digit-items ++ drop l.last l.fn.out) ≡ blanked l.fn.out
