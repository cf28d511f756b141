-- Demand 3, "one claim about the whole list of bytes", for every form and every list.
use Rattle.record.specs.Answers.{number_in}
use Rattle.std.specs.Prelude.{true, false, List, ◌≡◌, ℕ, ◌-◌, ◌≤◌, ◌<◌, length}
use Rattle.forms.specs.Forms.{is_serial}
use Rattle.forms.specs.Valid.{length_of, valid_of}
use Rattle.stream.specs.Answer.{answer_at, refused}
use Rattle.stream.specs.Distance.{Since}
use Rattle.stream.specs.Listens.{Listens}
use Rattle.stream.specs.Window.{last_of}
use Rattle.listener.specs.Listening.{hears, listener_after, started_of, state_of}

pub record Demand3 : Type 0 where
  -- "For every serial form and every list of bytes": what `Listens` says of all that a new listener answers
  pub heard : (form : ℕ) → is_serial form ≡ true → Listens (length_of form) (valid_of form) (hears form)
  -- "The kept bytes are always the last n-1 fed.", of the state that the whole list leaves
  pub kept : (form : ℕ) → is_serial form ≡ true → (s : List ℕ) → (state_of (listener_after form s)).kept ≡ last_of (length_of form - 1) s
  -- "the distance since the last record, capped at n", of the same state
  pub distance :
      (form : ℕ) → is_serial form ≡ true → (s : List ℕ) → Since (length_of form) (valid_of form) s (state_of (listener_after form s)).distance
  -- such a start is not refused
  pub started : (form : ℕ) → is_serial form ≡ true → number_in (started_of form).answer ≡ 0
  -- "A new listener for a wrong form answers 1"
  pub not_started : (form : ℕ) → is_serial form ≡ false → number_in (started_of form).answer ≡ 1
  -- "After a start refused with 1, every byte is answered 11."
  pub after_refusal :
      (form : ℕ) → number_in (started_of form).answer ≡ 1 → (s : List ℕ) (k : ℕ) → 0 < k → k ≤ length s
      → answer_at (hears form s) k ≡ refused 11
