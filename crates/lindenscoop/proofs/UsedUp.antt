-- Each call that is lent bytes uses one at least, and leaves a state that fits, so that every list of buffers is used up.
use Rattle.cond.proofs.Kit.{[], ◌∷◌, ◌≡◌, ◌<◌, arith, drop, le-leb, length, length-append, length-drop, List, suc, true, zero, ℕ}
use Rattle.stream.specs.Answer.{Answer}
use Rattle.listener.specs.declared.Listener.{Listener}
use Rattle.lindenscoop.specs.Buffers.{both_fit, held, state_fits}
use Rattle.lindenscoop.specs.Listener.{FedAllAs, answer_number, answer_numbers}
use Rattle.lindenscoop.specs.Repeated.{Calls, all_used, call, next_buffer}
use Rattle.lindenscoop.specs.Run.{Run, run_of}
use Rattle.lindenscoop.specs.State.{listener_of, state_bytes, state_size}
use Rattle.lindenscoop.proofs.Chained.{Long, ring_long}
use Rattle.lindenscoop.proofs.Room.{rooms}
use Rattle.lindenscoop.proofs.Used.{run_long, uses_some}

-- some calls use all up
abbrev UsedUp : List ℕ → List ℕ → List (List ℕ) → Type 0
UsedUp s bytes buffers = (seen : List (Answer (List ℕ))) × Calls s bytes buffers seen

held_fits : (l : Listener) (s : List ℕ) → Long l → state_fits (held l s) ≡ true
unfolding state_bytes
held_fits l s long = le-leb state_size (length (held l s)) (simp (length-append, long) (omega arith))

module _ (r : List ℕ) where
  module _ (s bytes : List ℕ) (fits : both_fit s r ≡ true) where
    abbrev run : Run
    run = run_of (listener_of s) bytes

    fed : FedAllAs s bytes r (answer_number run.answer) (held run.state s) run.used (answer_numbers run.answer r)
    fed = record { answered = record { number = rw fits; state = rw fits; numbers = rw fits }; used = rw fits }

    still_fits : both_fit (held run.state s) r ≡ true
    still_fits =
        let t = rooms s r fits in
        rw (held_fits run.state s (run_long bytes (listener_of s) (ring_long s t.0))) t.1

  -- fewer than k bytes of a buffer, and the buffers behind it
  abbrev Fewer : List (List ℕ) → ℕ → Type 0
  Fewer buffers k = (bytes s : List ℕ) → length bytes < k → both_fit s r ≡ true → UsedUp s bytes buffers

  module _ (buffers : List (List ℕ)) (others : (s : List ℕ) → both_fit s r ≡ true → UsedUp s [] buffers) where
    one_more : (k : ℕ) → Fewer buffers k → Fewer buffers (suc k)
    one_more k fewer [] s few fits = others s fits
    one_more k fewer (b ∷ bytes) s few fits =
        let some_used = uses_some (listener_of s) b bytes in
        let n = (run s (b ∷ bytes) fits).used in
        let left : length (drop n (b ∷ bytes)) < k = simp length-drop (omega arith) in
        let rest = fewer (drop n (b ∷ bytes)) (held (run s (b ∷ bytes) fits).state s) left (still_fits s (b ∷ bytes) fits) in
        (_, call fits (fed s (b ∷ bytes) fits) rest.1)

    one_buffer : (k : ℕ) → Fewer buffers k
    one_buffer zero bytes s few fits = absurd (omega arith)
    one_buffer (suc k) bytes s few fits = one_more k (one_buffer k) bytes s few fits

  pub used_up : (buffers : List (List ℕ)) (s : List ℕ) → both_fit s r ≡ true → UsedUp s [] buffers
  used_up [] s fits = ([], all_used)
  used_up (buffer ∷ buffers) s fits =
      let c = one_buffer buffers (used_up buffers) (suc (length buffer)) buffer s (omega arith) fits in
      (c.0, next_buffer c.1)
