-- A caller who goes over buffers with `lindenscoop_feed_all_numbers` is handed what demand 3 says, wherever the buffers' boundaries are.
use Rattle.std.specs.Prelude.{true, ◌≡◌, ℕ, zero, suc, ◌≤◌, ◌<◌, eqb, drop, length, replicate, take}
use mathlib.Core.List.{List, [], ◌∷◌, ◌++◌, flatten, map}
use Rattle.cond.specs.Pick.{pick}
use Rattle.record.specs.declared.Record.{Record}
use Rattle.stream.specs.Answer.{Answer, handed, nothing, records_of, refused}
use Rattle.stream.specs.Machine.{answers}
use Rattle.listener.specs.Listening.{hears}
use Rattle.flat_record.specs.Encode.{numbers_of, size}
use Rattle.lindenscoop.specs.Buffers.{both_fit, state_fits}
use Rattle.lindenscoop.specs.Chained.{answer_in, next_in}
use Rattle.lindenscoop.specs.Listener.{FedAllAs, StartedAs}

-- what a call answers to the last byte that it used: 0 is nothing, 100 the record whose numbers stand at the head of the buffer
unfoldable pub seen_by : ℕ → List ℕ → Answer (List ℕ)
seen_by n r = pick (eqb n 0) nothing (pick (eqb n 100) (handed (take size r)) (refused n))

-- what it answers to each byte that it used: nothing to those in front of the last one
unfoldable pub seen_of : {R : Type 0} → ℕ → Answer R → List (Answer R)
seen_of zero a = []
seen_of (suc u) a = replicate u nothing ++ (a ∷ [])

-- `Calls s bytes buffers seen`: the listener stands in the bytes s, `bytes` are left of a buffer, and `buffers` come behind it. Each call is
-- lent what is left and goes on behind the bytes that the one before it used; where all are used, the next buffer is taken. `seen` has the
-- answers to all bytes, in order
pub data Calls : List ℕ → List ℕ → List (List ℕ) → List (Answer (List ℕ)) → Type 0 where
  all_used : {s : List ℕ} → Calls s [] [] []
  next_buffer : {s buffer : List ℕ} {buffers : List (List ℕ)} {seen : List (Answer (List ℕ))} → Calls s buffer buffers seen
      → Calls s [] (buffer ∷ buffers) seen
  call : {s bytes r s' r' : List ℕ} {n u' : ℕ} {buffers : List (List ℕ)} {seen : List (Answer (List ℕ))} → both_fit s r ≡ true
      → FedAllAs s bytes r n s' u' r' → Calls s' (drop u' bytes) buffers seen → Calls s bytes buffers (seen_of u' (seen_by n r') ++ seen)

-- an answer with its record as numbers
abbrev pub in_numbers : Answer Record → Answer (List ℕ)
in_numbers (handed x) = handed (numbers_of x)
in_numbers nothing = nothing
in_numbers (refused c) = refused c

pub record Repeated : Type 0 where
  -- every byte is answered as by `lindenscoop_feed_numbers`, from any state
  pub byte_by_byte : (s : List ℕ) (buffers : List (List ℕ)) (seen : List (Answer (List ℕ))) → state_fits s ≡ true → Calls s [] buffers seen
      → seen ≡ map in_numbers (answers next_in answer_in s (flatten buffers))
  -- from a new listener every byte is answered as by a listener that is fed byte by byte; of what `hears` tells, demand 3 holds
  pub every_byte : (form n : ℕ) (s₀ s : List ℕ) (buffers : List (List ℕ)) (seen : List (Answer (List ℕ)))
      → state_fits s₀ ≡ true → StartedAs form s₀ n s → Calls s [] buffers seen → seen ≡ map in_numbers (hears form (flatten buffers))
  -- "So the records come in order and once each."
  pub in_order : (form n : ℕ) (s₀ s : List ℕ) (buffers : List (List ℕ)) (seen : List (Answer (List ℕ)))
      → state_fits s₀ ≡ true → StartedAs form s₀ n s → Calls s [] buffers seen
      → records_of seen ≡ map numbers_of (records_of (hears form (flatten buffers)))
  -- a call that is lent bytes uses one at least and no more than there are, so that no buffer takes more calls than it has bytes
  pub goes_on : (s bytes r s' r' : List ℕ) (n u' : ℕ) → both_fit s r ≡ true → FedAllAs s bytes r n s' u' r' → 0 < length bytes
      → (0 < u') × (u' ≤ length bytes)
  -- and every list of buffers is used up
  pub used_up : (s r : List ℕ) (buffers : List (List ℕ)) → both_fit s r ≡ true → (seen : List (Answer (List ℕ))) × Calls s [] buffers seen
