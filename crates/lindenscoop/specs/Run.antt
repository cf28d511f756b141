-- A listener that is fed bytes one after the other, up to the first that is answered by anything but nothing.
use Rattle.record.specs.declared.refusal.Refusal.{Refusal}
use Rattle.std.specs.Prelude.{Bool, true, false, List, [], ◌∷◌, ◌≡◌, ℕ, suc, Option, Result}
use Rattle.cond.specs.Pick.{pick}
use Rattle.record.specs.declared.Record.{Record}
use Rattle.stream.specs.Answer.{Answer, handed, nothing, refused}
use Rattle.listener.specs.declared.Listener.{Listener}
use Rattle.listener.specs.Listening.{answer_of, answer_to, next_of}
use Rattle.lindenscoop.specs.declared.run.Ran.{Ran}

-- anything but nothing
abbrev pub is_answer : Answer Record → Bool
is_answer (handed r) = true
is_answer nothing = false
is_answer (refused c) = true

-- the state that is left, the number of bytes that were taken, and the answer to the last of them
pub record Run : Type 0 where
  pub state : Listener
  pub used : ℕ
  pub answer : Answer Record

-- one byte more in front
abbrev pub behind_one : Run → Run
behind_one r = record { state = r.state; used = suc r.used; answer = r.answer }

unfoldable pub run_of : Listener → List ℕ → Run
run_of l [] = record { state = l; used = 0; answer = nothing }
run_of l (b ∷ s) =
    pick (is_answer (answer_to l b)) (record { state = next_of l b; used = 1; answer = answer_to l b }) (behind_one (run_of (next_of l b) s))

-- a state, and what a run hands back, from their parts
abbrev pub joined : ℕ → List ℕ → ℕ → ℕ → ℕ → Listener
joined form bytes at kept distance = record { bytes = bytes; at = at; kept = kept; distance = distance; form = form }

abbrev pub ended : Listener → ℕ → Result (Option Record) Refusal → Ran
ended l used x = record { listener = l; used = used; heard = x }

-- what the contract of `feed_until` says
pub record RanAs (l : Listener) (s : List ℕ) (r : Ran) : Type 0 where
  pub state : r.listener ≡ (run_of l s).state
  pub used : r.used ≡ (run_of l s).used
  pub answer : answer_of r.heard ≡ (run_of l s).answer
