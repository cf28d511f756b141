-- A listener that stands in bytes from call to call hears what the listener itself hears.
use Rattle.std.specs.Prelude.{List, ◌≡◌, ℕ}
use Rattle.record.specs.declared.Record.{Record}
use Rattle.stream.specs.Answer.{Answer}
use Rattle.stream.specs.Machine.{answers}
use Rattle.listener.specs.Listening.{answer_to, hears, next_of, started_of}
use Rattle.lindenscoop.specs.Buffers.{held}
use Rattle.lindenscoop.specs.State.{listener_of}

-- the bytes that a byte leaves, and its answer, as the contract of `lindenscoop_feed_numbers` has them
abbrev pub next_in : List ℕ → ℕ → List ℕ
next_in s b = held (next_of (listener_of s) b) s

abbrev pub answer_in : List ℕ → ℕ → Answer Record
answer_in s b = answer_to (listener_of s) b

-- "The list starts at a new listener, and nobody alters a state between two bytes.": of what `hears` tells, demand 3 holds
pub record Chained : Type 0 where
  pub heard : (form : ℕ) (s bytes : List ℕ) → answers next_in answer_in (held (started_of form).listener s) bytes ≡ hears form bytes
