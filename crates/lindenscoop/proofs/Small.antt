-- The numbers of a listener that stands in bytes, and of the one that a byte leaves, fit a byte.
use Rattle.cond.proofs.Kit.{[], ◌+◌, ◌<◌, ◌∷◌, ◌≤◌, arith, Fits, get_or, List, w8, ℕ}
use Rattle.record.specs.declared.Record.{Record}
use Rattle.forms.specs.Valid.{length_of}
use Rattle.serial.proofs.Lengths.{length_most, serial_low}
use Rattle.stream.specs.Answer.{Answer, handed, nothing, refused}
use Rattle.stream.specs.Distance.{distance_after}
use Rattle.listener.specs.declared.Listener.{Listener}
use Rattle.listener.specs.Listening.{answer_to, is_bad, moved_by, next_by, next_of, started_of}
use Rattle.listener.specs.Ring.{place_of, wrapped}
use Rattle.listener.proofs.Starts.{pick_has, start_by}
use Rattle.listener.proofs.Rings.{place_small, place_wrapped}
use Rattle.lindenscoop.specs.Run.{Run, is_answer, run_of}
use Rattle.lindenscoop.specs.State.{Storable, listener_of, ring_size}
use Rattle.lindenscoop.proofs.FormByte.{fits_byte}

pub of_bytes : (s : List ℕ) → ((i : ℕ) → Fits w8 (get_or s i 0)) → Storable (listener_of s)
unfolding listener_of
of_bytes s h = omega (arith, h ring_size, h (ring_size + 1), h (ring_size + 2), fits_byte _ (h (ring_size + 3)).fits)

near : (n d : ℕ) (a : Answer Record) → distance_after n d a ≤ n
near n d (handed r) = omega arith
near n d nothing = omega arith
near n d (refused c) = omega arith

next_place : (at : ℕ) → wrapped (place_of at + 1) < ring_size
next_place at =
    let low = place_small at in
    let same = place_wrapped (place_of at + 1) (omega arith) in
    let small = place_small (wrapped (place_of at + 1)) in
    rw same at small

moved : (n : ℕ) (l : Listener) (b : ℕ) (a : Answer Record) → n ≤ ring_size → Storable l → Storable (moved_by n l b a)
unfolding moved_by
moved n l b a h c =
    let p = next_place l.at in
    let d = near n l.distance a in
    omega arith

pub next_fits : (l : Listener) (b : ℕ) → Storable l → Storable (next_of l b)
unfolding next_of next_by
next_fits l b c = pick_has Storable (is_bad (length_of l.form) l) _ _ (λ e. c) (λ e. moved _ l b _ (length_most l.form) c)

pub run_fits : (s : List ℕ) (l : Listener) → Storable l → Storable (run_of l s).state
unfolding run_of
run_fits [] l c = c
run_fits (b ∷ s) l c =
    let next = next_fits l b c in
    pick_has (λ (r : Run). Storable r.state) (is_answer (answer_to l b)) _ _ (λ e. next) (λ e. run_fits s (next_of l b) next)

pub start_fits : (form : ℕ) → Storable (started_of form).listener
start_fits form = start_by form Storable (omega arith) (λ e. omega (arith, length_most form, serial_low form e))
