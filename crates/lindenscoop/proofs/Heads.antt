-- The head of a list, copied byte by byte, a state laid there, and a byte that ends no string stored where the state stands.
use Rattle.std.specs.Prelude.{Option, None, Ok, Some}
use Rattle.listener.specs.declared.passing.Moved.{Moved}
use lib.Seq.{set-append_left}
use Rattle.cond.proofs.Kit.{[], ◌++◌, ◌+◌, ◌<◌, ◌∙◌, ◌∷◌, ◌≡◌, ◌≤◌, add-one, ap, append_assoc, arith, drop, Fits, get_or, length, length-append, length-set, length-take-le, List, refl, set, sets-eq, sym, take, take-append-drop, take-suc, take-suc-set, w8, ℕ}
use Rattle.spelling.specs.Stored.{stored}
use Rattle.spelling.proofs.Stored.{stored_append, stored_in}
use Rattle.serial.specs.Shape.{longest}
use Rattle.listener.specs.Listening.{FedBy}
use Rattle.listener.specs.declared.Listener.{Listener}
use Rattle.listener.proofs.Steps.{passed}
use Rattle.lindenscoop.specs.Buffers.{held}
use Rattle.lindenscoop.specs.Chained.{next_in}
use Rattle.lindenscoop.specs.Run.{joined}
use Rattle.lindenscoop.specs.State.{Small, form_in, listener_of, numbered, passing_in, ring_size, state_bytes, state_size, versioned}
use Rattle.lindenscoop.proofs.Chained.{ring_long}
use Rattle.lindenscoop.proofs.Small.{next_fits, of_bytes}

pub one_more : (s y : List ℕ) (i : ℕ) → i < length s → i < length y → take i y ≡ take i s → take (i + 1) (set y i (get_or s i 0)) ≡ take (i + 1) s
one_more s y i h l e = rw (add-one, take-suc-set y i (get_or s i 0) l, take-suc s i 0 h, e)

-- a byte stored behind those that stand at the head
next : (o : List ℕ) {a c : List ℕ} (xs : List ℕ) (n b : ℕ) → length xs ≡ n → n < length o → a ≡ stored o 0 xs → c ≡ stored a n (b ∷ []) → c ≡ stored o 0 (xs ++ (b ∷ []))
next o xs n b e h p q =
    let z : n ≡ 0 + length xs = omega arith in
    rw (q, p, z) (stored_append o 0 xs (b ∷ []) (omega arith))

pub state_laid : (l : Listener) (before : List ℕ) → length l.bytes ≡ ring_size → state_size ≤ length before → {a b c d e : List ℕ}
    → a ≡ stored before 0 l.bytes → b ≡ stored a ring_size (l.at ∷ []) → c ≡ stored b (ring_size + 1) (l.kept ∷ [])
    → d ≡ stored c (ring_size + 2) (l.distance ∷ []) → e ≡ stored d (ring_size + 3) (versioned l.form ∷ []) → e ≡ state_bytes l ++ drop state_size before
unfolding state_bytes
state_laid l before long fits ea eb ec ed ee =
    let whole : length (state_bytes l) ≡ state_size = rw (length-append, long) in
    let b = next before l.bytes ring_size l.at long (omega arith) ea eb in
    let c = next before (l.bytes ++ (l.at ∷ [])) (ring_size + 1) l.kept (rw (length-append, long)) (omega arith) b ec in
    let d = next before _ (ring_size + 2) l.distance (rw (length-append, length-append, long)) (omega arith) c ed in
    let e = next before _ (ring_size + 3) (versioned l.form) (rw (length-append, length-append, length-append, long)) (omega arith) d ee in
    rw (append_assoc, append_assoc, append_assoc) at e ∙ stored_in before 0 (state_bytes l) (rw whole fits) ∙ sets-eq (state_bytes l) before 0 (rw whole fits) ∙ rw whole

-- a byte of the ring stored where it stands
in_ring : (s : List ℕ) (p b : ℕ) → p < ring_size → state_size ≤ length s → stored s p (b ∷ []) ≡ stored s 0 (set (take ring_size s) p b)
in_ring s p b h l =
    let t = length-take-le ring_size s (omega arith) in
    let k : length (set (take ring_size s) p b) ≡ ring_size = length-set (take ring_size s) p b ∙ t in
    let a = rw (take-append-drop ring_size s) at (set-append_left (take ring_size s) (drop ring_size s) p b (omega (arith, t))) in
    stored_in s p (b ∷ []) (omega arith) ∙ a
    ∙ sym (stored_in s 0 _ (rw k (omega arith)) ∙ sets-eq (set (take ring_size s) p b) s 0 (rw k (omega arith)) ∙ rw k)

module _ (s : List ℕ) (b : ℕ) (room : state_size ≤ length s) {r : Option Moved} {m : Moved} (er : r ≡ passing_in s b) (ep : r ≡ Some m) where
  abbrev stepped : Listener
  stepped = joined (listener_of s).form (set (listener_of s).bytes m.place b) m.at m.kept m.distance

  pub fed : (m.place < longest) × FedBy (listener_of s) b (record { next = stepped; heard = Ok None })
  fed = passed (listener_of s) b (ring_long s room) refl er ep

  pub fits : ((i : ℕ) → Fits w8 (get_or s i 0)) → Small m.at m.kept m.distance (form_in s)
  unfolding listener_of
  fits h = rw (← fed.1.next) at (next_fits (listener_of s) b (of_bytes s h))

  pub moved : {d : List ℕ} → d ≡ numbered m.at m.kept m.distance (form_in s) (stored s m.place (b ∷ [])) → d ≡ next_in s b
  unfolding listener_of
  moved e =
      state_laid stepped s (length-set (listener_of s).bytes m.place b ∙ ring_long s room) room (in_ring s m.place b fed.0 room) refl refl refl e
      ∙ ap (λ l. held l s) fed.1.next
