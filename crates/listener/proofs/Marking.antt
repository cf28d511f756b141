-- The marks still to be stored make of the marks as they are what the marks of all bytes make of those at entry.
use Rattle.std.specs.Prelude.{Ok, Err}
use Rattle.cond.proofs.Kit.{[], ◌+◌, ◌<◌, ◌∙◌, ◌∷◌, ◌≡◌, ◌≤◌, add-one, ap, arith, drop, drop-cons, drop_of_length-le, false, get_or, le-leb, length, List, lt-leb, refl, set, sets, sets-eq, suc, true, ℕ}
use Rattle.record.specs.declared.Record.{Record}
use Rattle.record.specs.declared.refusal.Refusal.TheVariants as refusal
use Rattle.forms.specs.Forms.{is_serial}
use Rattle.forms.specs.Valid.{length_of, valid_of}
use Rattle.stream.specs.Answer.{Answer}
use Rattle.stream.specs.Heard.{heard_all}
use Rattle.stream.specs.Machine.{answers}
use Rattle.stream.proofs.Records.{length_heard}
use Rattle.listener.specs.Listening.{FedBy, answer_of, hears}
use Rattle.listener.specs.Marks.{Marked, mark_answer, mark_of, marks_from, marks_of}
use Rattle.listener.specs.declared.Fed.{Fed}
use Rattle.listener.specs.declared.Listener.{Listener}
use Rattle.listener.proofs.Demand3.{hears_all}
use Rattle.listener.proofs.Steps.{same_form}

-- byte i is answered: its mark is stored, and the marks of the bytes behind it are left
pub mark_step : (m : List ℕ) (l : Listener) (s : List ℕ) (i : ℕ) → i < length s → {f : Fed} → FedBy l (get_or s i 0) f
    → {k : ℕ} → k ≡ mark_of (answer_of f.heard)
    → sets m i (marks_from l (drop i s))
    ≡ sets (set m i k) (i + 1)
    (marks_from (record { bytes = f.next.bytes; at = f.next.at; kept = f.next.kept; distance = f.next.distance; form = l.form }) (drop (i + 1) s))
unfolding answers marks_of
mark_step m l s i h fed e = rw (add-one, drop-cons s i 0, e, fed.answer, ← same_form fed, fed.next)

pub mark_end : (m : List ℕ) (l : Listener) (s : List ℕ) (i : ℕ) → length s ≤ i → sets m i (marks_from l (drop i s)) ≡ m
unfolding answers marks_of
mark_end m l s i h = rw (drop_of_length-le s h)

marks_length : (list : List (Answer Record)) → length (marks_of list) ≡ length list
unfolding marks_of
marks_length [] = refl
marks_length (a ∷ list) = ap suc (marks_length list)

module _ (form : ℕ) (s before : List ℕ) where
  pub no_form : is_serial form ≡ false → Marked form s (Err refusal.UnknownForm) before before
  unfolding mark_answer
  no_form e = record { answer = rw e; left = refl }

  module _ (known : is_serial form ≡ true) where
    pub no_room : length before < length s → Marked form s (Err refusal.ShortBuffer) before before
    unfolding mark_answer
    no_room h = record { answer = rw (known, lt-leb (length s) (length before) h); left = refl }

    pub all_marked : (after : List ℕ) → length s ≤ length before → after ≡ sets before 0 (marks_of (hears form s))
        → Marked form s (Ok (length s)) before after
    unfolding mark_answer heard_all
    all_marked after h e =
        let marks = marks_of (heard_all (length_of form) (valid_of form) s) in
        let l : length marks ≡ length s = marks_length _ ∙ length_heard (length_of form) (valid_of form) s (length s) 1 in
        let z : 0 + length s ≡ length s = omega arith in
        let laid = sets-eq marks before 0 (rw l (omega arith)) in
        record {
          answer = rw (known, le-leb (length s) (length before) h);
          left = e ∙ ap (λ (x : List (Answer Record)). sets before 0 (marks_of x)) (hears_all form known s) ∙ laid ∙ rw (l, z);
        }
