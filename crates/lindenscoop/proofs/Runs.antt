-- A run over bytes, byte by byte.
use Rattle.std.specs.Prelude.{None, Ok}
use Rattle.cond.proofs.Kit.{◌+◌, ◌<◌, ◌∙◌, ◌≡◌, ◌≤◌, add-one, ap, arith, drop, drop-cons, drop_of_length-le, false, get_or, length, List, suc, sym, true, ℕ}
use Rattle.stream.specs.Answer.{nothing}
use Rattle.listener.specs.declared.Fed.{Fed}
use Rattle.listener.specs.declared.Listener.{Listener}
use Rattle.listener.specs.Listening.{FedBy, answer_of, answer_to, next_of}
use Rattle.listener.proofs.Steps.{same_form}
use Rattle.lindenscoop.specs.Run.{RanAs, Run, ended, is_answer, joined, run_of}

-- so many bytes more in front
abbrev pub behind : ℕ → Run → Run
behind i r = record { state = r.state; used = i + r.used; answer = r.answer }

pub behind_none : (r : Run) → r ≡ behind 0 r
behind_none r = let e : 0 + r.used ≡ r.used = omega arith in rw e

module _ (l₀ l : Listener) (s : List ℕ) (i : ℕ) (inv : run_of l₀ s ≡ behind i (run_of l (drop i s))) where
  module _ (h : i < length s) {f : Fed} (fed : FedBy l (get_or s i 0) f) where
    abbrev b : ℕ
    b = get_or s i 0

    pub goes_on : is_answer (answer_of f.heard) ≡ false
        → run_of l₀ s ≡ behind (i + 1) (run_of (joined l.form f.next.bytes f.next.at f.next.kept f.next.distance) (drop (i + 1) s))
    unfolding run_of
    goes_on e =
        let n = (run_of (next_of l b) (drop (suc i) s)).used in
        let z : i + suc n ≡ suc i + n = omega arith in
        inv ∙ rw (drop-cons s i 0 h, ap is_answer (sym fed.answer) ∙ e, add-one, z, ← same_form fed, fed.next)

    pub answered : is_answer (answer_of f.heard) ≡ true → RanAs l₀ s (ended f.next (i + 1) f.heard)
    unfolding run_of
    answered e =
        record {
          state = fed.next ∙ sym (ap (λ r. r.state) run);
          used = sym (ap (λ r. r.used) run);
          answer = fed.answer ∙ sym (ap (λ r. r.answer) run);
        }
      where
        run : run_of l₀ s ≡ record { state = next_of l b; used = i + 1; answer = answer_to l b }
        run = inv ∙ rw (drop-cons s i 0 h, ap is_answer (sym fed.answer) ∙ e)

  pub all_fed : length s ≤ i → RanAs l₀ s (ended l i (Ok None))
  unfolding run_of
  all_fed h =
      let run : run_of l₀ s ≡ record { state = l; used = i + 0; answer = nothing } = inv ∙ rw (drop_of_length-le s h) in
      record { state = sym (ap (λ r. r.state) run); used = omega (arith, ap (λ r. r.used) run); answer = sym (ap (λ r. r.answer) run) }
