-- What room there is, and what stands at the head of a buffer that has it.
use Rattle.std.specs.Prelude.{Result, Option}
use Rattle.record.specs.declared.refusal.Refusal.{Refusal}
use Rattle.cond.proofs.Kit.{◌∙◌, ◌≡◌, ◌≤◌, ap, false, leb-true, length, List, true, ℕ}
use Rattle.cond.proofs.Tests.{both}
use Rattle.record.specs.declared.Record.{Record}
use Rattle.stream.specs.Answer.{Answer}
use Rattle.listener.specs.declared.Listener.{Listener}
use Rattle.listener.specs.Listening.{answer_of}
use Rattle.flat_record.specs.Encode.{Put, put_answer}
use Rattle.lindenscoop.specs.Buffers.{both_fit, held, record_fits, shown, state_fits, too_short}
use Rattle.lindenscoop.specs.Listener.{Answered, answer_number, answer_numbers}
use Rattle.lindenscoop.specs.State.{state_size}

pub room : (s : List ℕ) → state_fits s ≡ true → state_size ≤ length s
room s h = leb-true state_size (length s) h

pub rooms : (s r : List ℕ) → both_fit s r ≡ true → (state_size ≤ length s) × (record_fits r ≡ true)
rooms s r h = let t = both (state_fits s) (record_fits r) h in (room s t.0, t.1)

-- a record that `put_record` stored
pub shown_by : {x : Record} {w : Result ℕ Refusal} {r r' : List ℕ} → Put x w r r' → record_fits r ≡ true → r' ≡ shown x r
unfolding put_answer
shown_by h fits = h.left ∙ rw (h.answer, fits)

-- the answer of a listener

module _ {s r : List ℕ} {a : Answer Record} {l : Listener} where
  pub no_answer : both_fit s r ≡ false → Answered s r a l too_short s r
  no_answer t = record { number = rw t; state = rw t; numbers = rw t }

  pub answered : both_fit s r ≡ true → (x : Result (Option Record) Refusal) → answer_of x ≡ a → {next : Listener} → next ≡ l → {n : ℕ} {s' r' : List ℕ}
      → n ≡ answer_number (answer_of x) → s' ≡ held next s → r' ≡ answer_numbers (answer_of x) r → Answered s r a l n s' r'
  answered t x ea el en es er =
      record {
        number = rw t (en ∙ ap answer_number ea);
        state = rw t (es ∙ ap (λ y. held y s) el);
        numbers = rw t (er ∙ ap (λ y. answer_numbers y r) ea);
      }
