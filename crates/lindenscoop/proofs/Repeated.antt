-- Each call goes on from the state that the bytes used so far left, so that calls one behind the other answer to all bytes as a listener does
-- that is fed byte by byte.
use mathlib.Core.List.{flatten, map, map-append}
use Rattle.cond.proofs.Kit.{[], ◌++◌, ◌<◌, ◌∙◌, ◌∷◌, ◌≡◌, ◌≤◌, ap, arith, length, List, refl, sym, true, ℕ}
use Rattle.record.specs.declared.Record.{Record}
use Rattle.stream.specs.Answer.{Answer, handed, nothing, records_of, refused}
use Rattle.stream.specs.Machine.{answers}
use Rattle.listener.specs.declared.Listener.{Listener}
use Rattle.listener.specs.Listening.{hears, started_of}
use Rattle.flat_record.specs.Encode.{numbers_of}
use Rattle.lindenscoop.specs.Buffers.{both_fit, state_fits}
use Rattle.lindenscoop.specs.Listener.{FedAllAs, StartedAs}
use Rattle.lindenscoop.specs.Repeated.{Calls, Repeated, all_used, call, in_numbers, next_buffer, seen_by, seen_of}
use Rattle.lindenscoop.specs.Run.{run_of}
use Rattle.lindenscoop.specs.State.{listener_of}
use Rattle.lindenscoop.proofs.Chained.{Holds, byte_by_byte, held_back, ring_long, start_long}
use Rattle.lindenscoop.proofs.Room.{room}
use Rattle.lindenscoop.proofs.Used.{heard_by, run_long, run_told, split, told_map, uses_most, uses_some}
use Rattle.lindenscoop.proofs.UsedUp.{used_up}

-- one call, from a listener l that stands in the bytes s
module _ {s bytes r s' r' : List ℕ} {n u' : ℕ} (fits : both_fit s r ≡ true) (fed : FedAllAs s bytes r n s' u' r') (l : Listener) (h : Holds s l) where
  used_is : u' ≡ (run_of l bytes).used
  used_is = (rw (fits, h.0) at fed.used)

  told_is : seen_by n r' ≡ in_numbers (run_of l bytes).answer
  told_is = let a = fed.answered in rw ((rw (fits, h.0) at a.number), (rw (fits, h.0) at a.numbers)) (run_told bytes l r)

  goes_on_from : Holds s' (run_of l bytes).state
  goes_on_from =
      let long = run_long bytes l h.1 in
      (rw (rw (fits, h.0) at fed.answered.state) (held_back (run_of l bytes).state s long), long)

calls_told : {s bytes : List ℕ} {buffers : List (List ℕ)} {seen : List (Answer (List ℕ))} → Calls s bytes buffers seen → (l : Listener) → Holds s l
    → seen ≡ map in_numbers (heard_by l (bytes ++ flatten buffers))
unfolding answers flatten
calls_told all_used l h = refl
calls_told (next_buffer c) l h = calls_told c l h
calls_told {bytes = bytes} {buffers = buffers} (call fits fed c) l h =
    let used = used_is fits fed l h in
    let answer = told_is fits fed l h in
    let rest = calls_told c (run_of l bytes).state (goes_on_from fits fed l h) in
    (λ i. seen_of (used i) (answer i) ++ rest i) ∙ rw (used, ← told_map, ← map-append, split bytes (flatten buffers) l)

-- the records among the answers
records_map : (list : List (Answer Record)) → records_of (map in_numbers list) ≡ map numbers_of (records_of list)
unfolding records_of
records_map [] = refl
records_map (handed x ∷ list) = ap (λ (t : List (List ℕ)). numbers_of x ∷ t) (records_map list)
records_map (nothing ∷ list) = records_map list
records_map (refused c ∷ list) = records_map list

module _ {form n : ℕ} {s₀ s : List ℕ} (fits : state_fits s₀ ≡ true) (started : StartedAs form s₀ n s) where
  from_start : Holds s (started_of form).listener
  from_start =
      let long = start_long form in
      (rw (rw fits at started.state) (held_back (started_of form).listener s₀ long), long)

  every_byte : {buffers : List (List ℕ)} {seen : List (Answer (List ℕ))} → Calls s [] buffers seen → seen ≡ map in_numbers (hears form (flatten buffers))
  unfolding hears
  every_byte c = calls_told c (started_of form).listener from_start

goes_on : (s bytes r s' r' : List ℕ) (n u' : ℕ) → both_fit s r ≡ true → FedAllAs s bytes r n s' u' r' → 0 < length bytes → (0 < u') × (u' ≤ length bytes)
goes_on s [] r s' r' n u' fits fed some_byte = absurd (omega arith)
goes_on s (b ∷ bytes) r s' r' n u' fits fed some_byte =
    let used : u' ≡ (run_of (listener_of s) (b ∷ bytes)).used = rw fits at fed.used in
    rw used (uses_some (listener_of s) b bytes, uses_most (b ∷ bytes) (listener_of s))

pub repeated : Repeated
repeated =
    record {
      byte_by_byte = λ s buffers seen fits c.
          let h : Holds s (listener_of s) = (refl, ring_long s (room s fits)) in
          calls_told c (listener_of s) h ∙ ap (map in_numbers) (sym (byte_by_byte s (listener_of s) h (flatten buffers)));
      every_byte = λ form n s₀ s buffers seen fits started c. every_byte fits started c;
      in_order = λ form n s₀ s buffers seen fits started c.
          ap records_of (every_byte fits started c) ∙ records_map (hears form (flatten buffers));
      goes_on = goes_on;
      used_up = λ s r buffers fits. used_up r buffers s fits;
    }
