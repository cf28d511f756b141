-- The listener over the ring answers byte by byte as the step over the kept bytes does, of which demand 3 holds over any form.
use Rattle.cond.proofs.Kit.{[], ◌+◌, ◌-◌, ◌<◌, ◌∙◌, ◌∷◌, ◌≡◌, ◌≤◌, ap, arith, get_or, length, length-set, List, refl, suc, sym, true, zero, ℕ}
use Rattle.forms.specs.Forms.{is_serial, form_kind_of}
use Rattle.forms.specs.Valid.{length_of, valid_of}
use Rattle.serial.proofs.Lengths.{length_most, serial_long}
use Rattle.serial.proofs.Strings.{serial_strings}
use Rattle.stream.specs.Answer.{nothing, refused}
use Rattle.stream.specs.Distance.{Since, State, fresh, step_answer, step_next}
use Rattle.stream.specs.Heard.{heard_all}
use Rattle.stream.specs.Machine.{answers, state_after}
use Rattle.stream.specs.Window.{last_of}
use Rattle.stream.proofs.Distance.{fits_next, step_counts, step_hears, step_keeps}
use Rattle.stream.proofs.Listens.{listens_by}
use Rattle.stream.proofs.Machine.{same_answers, same_states}
use Rattle.serial.specs.Shape.{longest}
use Rattle.listener.specs.Demand3.{Demand3}
use Rattle.listener.specs.Listening.{answer_by, answer_to, hears, is_bad, listener_after, moved_by, next_by, next_of, silent, started_of, state_of}
use Rattle.listener.specs.Ring.{oldest_first, place_of}
use Rattle.listener.specs.declared.Listener.{Listener}
use Rattle.listener.proofs.Rings.{place_small, place_wrapped}
use Rattle.listener.proofs.Starts.{fresh_is, refused_form, start_known, start_unknown}
use Rattle.listener.proofs.Steps.{answer_is, kept_ring, next_is}

module _ (f : ℕ) (serial : is_serial f ≡ true) where
  abbrev n : ℕ
  n = length_of f

  some_byte : 0 < n
  some_byte = serial_long f serial

  -- a state of the ring that refusal 11 does not name
  record Sound (l : Listener) : Type 0 where
    form_is : l.form ≡ f
    sized : length l.bytes ≡ longest
    small : l.kept < n
    near : l.distance ≤ n

  module _ (l : Listener) (b : ℕ) (c : Sound l) where
    is : n ≡ length_of l.form
    is = ap length_of (sym c.form_is)

    answer_step : answer_to l b ≡ step_answer n (valid_of f) (state_of l) b
    answer_step =
        answer_is l b n is c.small c.near (length_most f) c.sized
        ∙ ap (λ (g : ℕ). step_answer n (valid_of g) (state_of l) b) c.form_is

    -- the state that a byte leaves is the one that the step leaves
    state_step : state_of (moved_by n l b (answer_to l b)) ≡ step_next (n - 1) n (valid_of f) (state_of l) b
    unfolding state_of moved_by step_next
    state_step =
        let low = place_small l.at in
        rw (answer_step, place_wrapped (place_of l.at + 1) (omega (arith, low)), kept_ring l b n c.sized c.small (length_most f))

    sound_step : Sound (moved_by n l b (answer_to l b))
    unfolding moved_by step_next state_of
    sound_step =
        record {
          form_is = c.form_is;
          sized = length-set l.bytes (place_of l.at) b ∙ c.sized;
          small = omega (arith, some_byte);
          near = rw answer_step (fits_next (n - 1) n (valid_of f) (state_of l) b).distance_fits;
        }

  abbrev Alike : Listener → State → Type 0
  Alike l t = Sound l × (state_of l ≡ t)

  answers_alike : (l : Listener) (t : State) (b : ℕ) → Alike l t → answer_to l b ≡ step_answer n (valid_of f) t b
  answers_alike l t b (c, e) = answer_step l b c ∙ ap (λ (s : State). step_answer n (valid_of f) s b) e

  next_alike : (l : Listener) (t : State) (b : ℕ) → Alike l t → Alike (next_of l b) (step_next (n - 1) n (valid_of f) t b)
  next_alike l t b (c, e) =
      rw (next_is l b n (is l b c) c.small c.near (length_most f) c.sized)
      (sound_step l b c, state_step l b c ∙ ap (λ (s : State). step_next (n - 1) n (valid_of f) s b) e)

  fresh_alike : Alike (silent f n) (fresh n)
  unfolding state_of last_of oldest_first
  fresh_alike = (record { form_is = refl; sized = refl; small = some_byte; near = omega arith }, refl)

  pub hears_all : (s : List ℕ) → hears f s ≡ heard_all n (valid_of f) s
  unfolding hears
  hears_all s =
      rw (fresh_is f serial)
      (same_answers next_of answer_to (step_next (n - 1) n (valid_of f)) (step_answer n (valid_of f)) Alike next_alike answers_alike (silent f n) (fresh n) s
      fresh_alike
      ∙ step_hears (n - 1) n (valid_of f) (serial_strings f some_byte) (omega (arith, some_byte)) s)

  -- the listener is in a state like the step's after any bytes
  state_after_lem : (s : List ℕ) → state_of (listener_after f s) ≡ state_after (step_next (n - 1) n (valid_of f)) (fresh n) s
  unfolding listener_after
  state_after_lem s =
      rw (fresh_is f serial) (same_states next_of (step_next (n - 1) n (valid_of f)) Alike next_alike (silent f n) (fresh n) s fresh_alike).1

  pub kept_after_lem : (s : List ℕ) → (state_of (listener_after f s)).kept ≡ last_of (n - 1) s
  kept_after_lem s =
      ap State.kept (state_after_lem s) ∙ step_keeps (n - 1) n (valid_of f) (serial_strings f some_byte) (omega (arith, some_byte)) s

  pub distance_after_lem : (s : List ℕ) → Since n (valid_of f) s (state_of (listener_after f s)).distance
  distance_after_lem s = rw (state_after_lem s) (step_counts (n - 1) n (valid_of f) (serial_strings f some_byte) (omega (arith, some_byte)) s)

-- a start refused with 1

unheard : (b : ℕ) → (answer_to (silent 0 0) b ≡ refused 11) × (next_of (silent 0 0) b ≡ silent 0 0)
unfolding answer_to answer_by next_of next_by is_bad is_serial form_kind_of
unheard b = (refl, refl)

all_refused : (s : List ℕ) (i : ℕ) → i < length s → get_or (answers next_of answer_to (silent 0 0) s) i nothing ≡ refused 11
unfolding answers
all_refused [] i l = absurd (omega arith)
all_refused (b ∷ s) zero l = (unheard b).0
all_refused (b ∷ s) (suc i) l = rw (unheard b).1 (all_refused s i (omega arith))

pub demand_3 : Demand3
unfolding hears started_of
demand_3 =
    record {
      heard = λ f e. listens_by (length_of f) (valid_of f) (serial_strings f (serial_long f e)) (hears f) (hears_all f e);
      kept = kept_after_lem;
      distance = distance_after_lem;
      started = start_known;
      not_started = start_unknown;
      after_refusal = λ f e s k l m. rw (refused_form f e) (all_refused s (k - 1) (omega arith));
    }
