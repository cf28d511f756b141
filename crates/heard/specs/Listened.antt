-- What was read and what was written for it: the bytes that an input has left, and those that an output holds, where they are known.
use Rattle.std.specs.Prelude.{List, ◌≡◌, ℕ, length}
use Rattle.std.specs.declared.option.Option.{Option}
use Rattle.std.specs.Io.KnownBytes.{Appends, Consumes}
use Rattle.report.specs.Stream.{AsHeard}

-- some bytes were taken from the input, the records that a listener hands out over them were written to the output, and both are counted
pub record Listened (form : ℕ) (left left' told told' : Option (List ℕ)) (bytes telegrams : ℕ) : Type 0 where
  pub stream : List ℕ
  pub text : List ℕ
  pub taken : Consumes left left' stream
  pub written : Appends told told' text
  pub heard : AsHeard form stream text telegrams
  pub size : bytes ≡ length stream

-- some bytes, perhaps none, were taken from the input
pub record SomeTaken (left left' : Option (List ℕ)) : Type 0 where
  pub stream : List ℕ
  pub taken : Consumes left left' stream
