-- What a new listener is, and what a byte does to one, on every state.
use Rattle.record.specs.declared.refusal.Refusal.{Refusal}
use Rattle.record.specs.Answers.{number_in}
use Rattle.std.specs.Prelude.{Bool, not, ◌||◌, List, ◌≡◌, ℕ, ◌+◌, ◌-◌, min, ltb, replicate, set, None, Some, Ok, Err, Option, Result}
use Rattle.cond.specs.Pick.{pick}
use Rattle.record.specs.declared.Record.{Record}
use Rattle.record.specs.declared.refusal.Refusal.TheVariants as refusal
use Rattle.record.specs.Refusal.{number_of}
use Rattle.forms.specs.Forms.{is_serial}
use Rattle.forms.specs.Valid.{length_of, valid_of}
use Rattle.stream.specs.Answer.{Answer, handed, nothing, refused}
use Rattle.stream.specs.Distance.{State, distance_after, step_answer}
use Rattle.stream.specs.Machine.{answers, state_after}
use Rattle.stream.specs.Window.{last_of}
use Rattle.serial.specs.Shape.{longest}
use Rattle.listener.specs.Ring.{oldest_first, place_of, wrapped}
use Rattle.listener.specs.declared.Fed.{Fed}
use Rattle.listener.specs.declared.Listener.{Listener}
use Rattle.listener.specs.declared.Started.{Started}

-- the paper's number and values for each answer to a byte
abbrev pub answer_of : Result (Option Record) Refusal → Answer Record
answer_of (Ok (Some r)) = handed r
answer_of (Ok None) = nothing
answer_of (Err x) = refused (number_of x)

-- "A state holds the form, up to n-1 last bytes, and the distance since the last record": these are the last of the ring
unfoldable pub state_of : Listener → State
state_of l = record { kept = last_of l.kept (oldest_first (place_of l.at) l.bytes); distance = l.distance }

-- "form not 1..7, more than n-1 bytes kept, or a distance over n"; the serial forms of document 02 besides
unfoldable pub is_bad : ℕ → Listener → Bool
is_bad n l = not (is_serial l.form) || (ltb (n - 1) l.kept || ltb n l.distance)

-- the answer to a byte, n being the form's length: "Refusal 11", or what the step answers
unfoldable pub answer_by : ℕ → Listener → ℕ → Answer Record
answer_by n l b = pick (is_bad n l) (refused (number_of refusal.BadState)) (step_answer n (valid_of l.form) (state_of l) b)

-- the byte in the next place of the ring: "The kept bytes are always the last n-1 fed. Handing out sets the distance to 0; any other byte
-- adds one up to n."
unfoldable pub moved_by : ℕ → Listener → ℕ → Answer Record → Listener
moved_by n l b a =
    record {
      bytes = set l.bytes (place_of l.at) b;
      at = wrapped (place_of l.at + 1);
      kept = min (l.kept + 1) (n - 1);
      distance = distance_after n l.distance a;
      form = l.form;
    }

-- the state that a byte leaves: "Refusal 11 returns the state unchanged"
unfoldable pub next_by : ℕ → Listener → ℕ → Listener
next_by n l b = pick (is_bad n l) l (moved_by n l b (answer_by n l b))

unfoldable pub answer_to : Listener → ℕ → Answer Record
answer_to l b = answer_by (length_of l.form) l b

unfoldable pub next_of : Listener → ℕ → Listener
next_of l b = next_by (length_of l.form) l b

-- what the contract of `feed` says
pub record FedBy (l : Listener) (b : ℕ) (f : Fed) : Type 0 where
  pub next : f.next ≡ next_of l b
  pub answer : answer_of f.heard ≡ answer_to l b

-- a listener with no bytes
abbrev pub silent : ℕ → ℕ → Listener
silent form distance = record { bytes = replicate longest 0; at = 0; kept = 0; distance = distance; form = form }

-- "fresh means no bytes and distance n"; "A new listener for a wrong form answers 1 and a state of form 0 with no bytes and distance 0."
unfoldable pub started_of : ℕ → Started
started_of form =
    pick (is_serial form) (record { listener = silent form (length_of form); answer = Ok tt })
    (record { listener = silent 0 0; answer = Err refusal.UnknownForm })

-- "start a listener afresh for that form and feed it the list byte by byte, each to the state that the byte before it left"
unfoldable pub hears : ℕ → List ℕ → List (Answer Record)
hears form s = answers next_of answer_to (started_of form).listener s

-- the listener that the last byte of the list leaves
unfoldable pub listener_after : ℕ → List ℕ → Listener
listener_after form s = state_after next_of (started_of form).listener s
