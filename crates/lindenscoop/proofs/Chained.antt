-- The bytes that hold a listener give it back, so that each call goes on where the last one left off.
use Rattle.cond.proofs.Kit.{◌++◌, ◌+◌, ◌∙◌, ◌∷◌, ◌≡◌, ◌≤◌, ap, append_assoc, arith, drop, get_or, get_or-append-add, length, length-set, length-take, List, refl, take_at, ℕ}
use Rattle.forms.specs.Valid.{length_of}
use Rattle.stream.specs.Machine.{answers}
use Rattle.stream.proofs.Machine.{same_answers}
use Rattle.listener.specs.declared.Listener.{Listener}
use Rattle.listener.specs.Listening.{answer_to, hears, is_bad, moved_by, next_by, next_of, started_of}
use Rattle.listener.proofs.Starts.{pick_has, start_by}
use Rattle.listener.specs.Ring.{place_of}
use Rattle.lindenscoop.specs.Buffers.{held}
use Rattle.lindenscoop.specs.Chained.{Chained, answer_in, next_in}
use Rattle.lindenscoop.specs.State.{listener_of, ring_size, state_bytes, state_size, versioned}
use Rattle.lindenscoop.proofs.FormByte.{there_and_back}

module _ (l : Listener) (s : List ℕ) (long : length l.bytes ≡ ring_size) where
  abbrev rest : List ℕ
  rest = l.at ∷ l.kept ∷ l.distance ∷ versioned l.form ∷ drop state_size s

  behind_ring : (i : ℕ) → get_or (l.bytes ++ rest) (ring_size + i) 0 ≡ get_or rest i 0
  behind_ring i = rw long at (get_or-append-add l.bytes rest i 0)

  pub held_back : listener_of (held l s) ≡ l
  unfolding listener_of state_bytes
  held_back =
      rw (append_assoc, take_at l.bytes rest ring_size long)
      (rw (behind_ring 0, behind_ring 1, behind_ring 2, behind_ring 3, there_and_back l.form))

-- the ring keeps its length

abbrev pub Long : Listener → Type 0
Long l = length l.bytes ≡ ring_size

pub next_long : (l : Listener) (b : ℕ) → Long l → Long (next_of l b)
unfolding next_of next_by moved_by
next_long l b long =
    pick_has Long (is_bad (length_of l.form) l) _ _ (λ e. long) (λ e. length-set l.bytes (place_of l.at) b ∙ long)

pub ring_long : (s : List ℕ) → state_size ≤ length s → Long (listener_of s)
unfolding listener_of
ring_long s h = simp length-take (omega arith)

pub start_long : (form : ℕ) → Long (started_of form).listener
start_long form = start_by form Long refl (λ e. refl)

-- bytes that hold a listener

abbrev pub Holds : List ℕ → Listener → Type 0
Holds s l = (listener_of s ≡ l) × Long l

next_holds : (s : List ℕ) (l : Listener) (b : ℕ) → Holds s l → Holds (next_in s b) (next_of l b)
next_holds s l b (e, long) =
    let n = next_long l b long in
    (rw e (held_back (next_of l b) s n), n)

answers_alike : (s : List ℕ) (l : Listener) (b : ℕ) → Holds s l → answer_in s b ≡ answer_to l b
answers_alike s l b (e, long) = ap (λ (x : Listener). answer_to x b) e

pub byte_by_byte : (s : List ℕ) (l : Listener) → Holds s l → (bytes : List ℕ) → answers next_in answer_in s bytes ≡ answers next_of answer_to l bytes
byte_by_byte s l h bytes = same_answers next_in answer_in next_of answer_to Holds next_holds answers_alike s l bytes h

pub chained : Chained
unfolding hears
chained =
    record {
      heard = λ form s bytes.
          let n = start_long form in
          byte_by_byte _ (started_of form).listener (held_back (started_of form).listener s n, n) bytes;
    }
