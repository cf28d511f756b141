-- Another version gives a number that no form has, so that the state is refused; and what is stored of it are the bytes that were there.
use Rattle.cond.proofs.Kit.{◌++◌, ◌+◌, ◌<◌, ◌∙◌, ◌∷◌, ◌≡◌, ◌≤◌, ap, append_assoc, arith, Bool, drop, drop-cons, false, get_or, length, List, refl, suc, take, take-append-drop, true, ℕ}
use Rattle.forms.specs.Forms.{is_serial}
use Rattle.serial.proofs.Lengths.{serial_low}
use Rattle.stream.specs.Answer.{refused}
use Rattle.listener.specs.declared.Listener.{Listener}
use Rattle.listener.specs.Listening.{answer_by, answer_to, is_bad, next_by, next_of}
use Rattle.listener.proofs.Starts.{start_by}
use Rattle.listener.proofs.Steps.{next_form}
use Rattle.lindenscoop.specs.Buffers.{both_fit, held}
use Rattle.lindenscoop.specs.Listener.{Answered}
use Rattle.lindenscoop.specs.Run.{run_of}
use Rattle.lindenscoop.specs.State.{form_in, listener_of, ring_size, state_bytes, state_size, version, version_in}
use Rattle.lindenscoop.specs.Version.{Unchanged, Versioned}
use Rattle.lindenscoop.proofs.Chained.{Long, held_back, next_long, ring_long, start_long}
use Rattle.lindenscoop.proofs.FormByte.{high, there_and_back}
use Rattle.lindenscoop.proofs.Room.{rooms}

abbrev form_byte : List ℕ → ℕ
form_byte s = get_or s (ring_size + 3) 0

-- the form's number is read back from a state that is stored
form_back : {s' : List ℕ} (l : Listener) (s : List ℕ) → Long l → s' ≡ held l s → form_in s' ≡ l.form
unfolding listener_of
form_back l s long e = ap form_in e ∙ ap (λ (x : Listener). x.form) (held_back l s long)

-- bytes stored again where they stand

rejoined : (s : List ℕ) (k : ℕ) → suc (suc (suc k)) < length s
    → take k s ++ (get_or s k 0 ∷ get_or s (suc k) 0 ∷ get_or s (suc (suc k)) 0 ∷ get_or s (suc (suc (suc k))) 0 ∷ drop (suc (suc (suc (suc k)))) s) ≡ s
rejoined s k h =
    rw (← drop-cons s (suc (suc (suc k))) 0 h, ← drop-cons s (suc (suc k)) 0 (omega arith), ← drop-cons s (suc k) 0 (omega arith), ← drop-cons s k 0 (omega arith))
    (take-append-drop k s)

same_bytes_lem : (s : List ℕ) → state_size ≤ length s → held (listener_of s) s ≡ s
unfolding listener_of state_bytes
same_bytes_lem s h = append_assoc (take ring_size s) _ (drop state_size s) ∙ rw (there_and_back (form_byte s)) (rejoined s ring_size (omega arith))

module _ (s : List ℕ) (other : version_in s ≡ version → ⊥) where
  no_form : is_serial (form_in s) ≡ false
  no_form = go (is_serial (form_in s)) refl
    where
      go : (t : Bool) → is_serial (form_in s) ≡ t → t ≡ false
      go true e = absurd (other (omega (arith, serial_low (form_in s) e, high (form_byte s))))
      go false e = refl

  Refuses : (b : ℕ) → (answer_to (listener_of s) b ≡ refused 11) × (next_of (listener_of s) b ≡ listener_of s)
  unfolding answer_to answer_by next_of next_by is_bad listener_of
  Refuses b = (rw no_form, rw no_form)

unchanged : (s r s' r' : List ℕ) (n : ℕ) → both_fit s r ≡ true → Answered s r (refused 11) (listener_of s) n s' r' → Unchanged s r n s' r'
unchanged s r s' r' n fits h =
    (rw fits at h.number, (rw fits at h.state) ∙ same_bytes_lem s (rooms s r fits).0, rw fits at h.numbers)

pub versioned_states : Versioned
unfolding run_of listener_of
versioned_states =
    record {
      started = λ form n s s' fits h.
          let e = form_back _ s (start_long form) (rw fits at h.state) in
          omega (arith, start_by form (λ l. l.form < 16) (omega arith) (serial_low form), high (form_byte s'));
      kept = λ s r s' r' b n fits h.
          let l = listener_of s in
          let e = form_back _ s (next_long l b (ring_long s (rooms s r fits).0)) (rw fits at h.state) ∙ next_form l b in
          omega (arith, high (form_byte s), high (form_byte s'));
      refused = λ s r s' r' b n fits other h. let e = Refuses s other b in unchanged s r s' r' n fits (rw (e.0, e.1) at h);
      refused_first = λ s bytes r s' r' b n u' fits other h.
          let e = Refuses s other b in
          (unchanged s r s' r' n fits (rw (e.0, e.1) at h.answered), rw (fits, e.0) at h.used);
    }
