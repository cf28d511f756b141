-- Buffers that a caller lends for a record and for a listener.
use Rattle.std.specs.Prelude.{Bool, ◌&&◌, List, ◌++◌, ℕ, leb, drop, length}
use Rattle.record.specs.declared.Record.{Record}
use Rattle.record.specs.declared.refusal.Refusal.TheVariants as refusal
use Rattle.record.specs.Refusal.{number_of}
use Rattle.listener.specs.declared.Listener.{Listener}
use Rattle.flat_record.specs.Encode.{numbers_of, size}
use Rattle.lindenscoop.specs.State.{state_bytes, state_size}

-- there is room for a record
abbrev pub record_fits : List ℕ → Bool
record_fits r = leb size (length r)

-- there is room for a listener
abbrev pub state_fits : List ℕ → Bool
state_fits s = leb state_size (length s)

-- there is room for both
abbrev pub both_fit : List ℕ → List ℕ → Bool
both_fit s r = state_fits s && record_fits r

-- "the buffer is shorter than the output": the refusal for want of room, which is tested before all else; no buffer is changed, and a length,
-- a place or a count of bytes is 0
abbrev pub too_short : ℕ
too_short = number_of refusal.ShortBuffer

-- a record at the head of its buffer
abbrev pub shown : Record → List ℕ → List ℕ
shown x r = numbers_of x ++ drop size r

-- a listener at the head of its buffer
abbrev pub held : Listener → List ℕ → List ℕ
held l s = state_bytes l ++ drop state_size s
