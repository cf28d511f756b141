-- What the functions of a listener answer, and every byte and number that they were lent afterwards.
use Rattle.record.specs.Answers.{number_in}
use Rattle.std.specs.Prelude.{List, ◌≡◌, ℕ}
use Rattle.cond.specs.Pick.{pick}
use Rattle.record.specs.declared.Record.{Record}
use Rattle.stream.specs.Answer.{Answer, handed, nothing, refused}
use Rattle.listener.specs.declared.Listener.{Listener}
use Rattle.listener.specs.Listening.{answer_to, next_of, started_of}
use Rattle.lindenscoop.specs.Buffers.{both_fit, held, shown, state_fits, too_short}
use Rattle.lindenscoop.specs.Run.{run_of}
use Rattle.lindenscoop.specs.State.{listener_of}

-- 0 for nothing, 100 for a record, else the paper's number
abbrev pub answer_number : Answer Record → ℕ
answer_number (handed r) = 100
answer_number nothing = 0
answer_number (refused c) = c

-- a record that is handed out goes to the head of the buffer; nothing else changes it
abbrev pub answer_numbers : Answer Record → List ℕ → List ℕ
answer_numbers (handed x) r = shown x r
answer_numbers nothing r = r
answer_numbers (refused c) r = r

-- "A new listener for a wrong form answers 1 and a state of form 0 with no bytes and distance 0."
pub record StartedAs (form : ℕ) (s : List ℕ) (n : ℕ) (s' : List ℕ) : Type 0 where
  pub number : n ≡ pick (state_fits s) (number_in (started_of form).answer) too_short
  pub state : s' ≡ pick (state_fits s) (held (started_of form).listener s) s

-- an answer given, the state that it leaves stored, and the record if one is handed out; or refusal 10 and no buffer changed
pub record Answered (s r : List ℕ) (a : Answer Record) (l : Listener) (n : ℕ) (s' r' : List ℕ) : Type 0 where
  pub number : n ≡ pick (both_fit s r) (answer_number a) too_short
  pub state : s' ≡ pick (both_fit s r) (held l s) s
  pub numbers : r' ≡ pick (both_fit s r) (answer_numbers a r) r

-- "handing back the next state beside the answer": one byte
abbrev pub FedAs : List ℕ → ℕ → List ℕ → ℕ → List ℕ → List ℕ → Type 0
FedAs s b r n s' r' = Answered s r (answer_to (listener_of s) b) (next_of (listener_of s) b) n s' r'

-- bytes one after the other, and how many were fed
pub record FedAllAs (s bytes r : List ℕ) (n : ℕ) (s' : List ℕ) (u' : ℕ) (r' : List ℕ) : Type 0 where
  pub answered : Answered s r (run_of (listener_of s) bytes).answer (run_of (listener_of s) bytes).state n s' r'
  pub used : u' ≡ pick (both_fit s r) (run_of (listener_of s) bytes).used 0
