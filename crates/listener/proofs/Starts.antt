-- A listener starts fresh for a serial form; for any other the start is refused with 1.
use Rattle.record.specs.Answers.{number_in}
use Rattle.cond.proofs.Kit.{◌≡◌, arith, Bool, false, refl, true, ℕ}
use Rattle.cond.specs.Pick.{pick}
use Rattle.cond.proofs.Tests.{either_way}
use Rattle.forms.specs.Forms.{is_serial}
use Rattle.forms.specs.Valid.{length_of}
use Rattle.listener.specs.Listening.{silent, started_of}
use Rattle.listener.specs.declared.Listener.{Listener}
use Rattle.listener.specs.declared.Started.{Started}

-- what both cases of a test have
pub pick_has : {A : Type 0} (P : A → Type 0) (t : Bool) (a b : A) → (t ≡ true → P a) → (t ≡ false → P b) → P (pick t a b)
pick_has P true a b h l = h refl
pick_has P false a b h l = l refl

module _ (form : ℕ) where
  -- what holds of a listener of no form, and of a fresh one of each serial form, holds of a new one
  pub start_by : (P : Listener → Type 0) → P (silent 0 0) → (is_serial form ≡ true → P (silent form (length_of form))) → P (started_of form).listener
  unfolding started_of
  start_by P none fresh = pick_has (λ (x : Started). P x.listener) (is_serial form) _ _ fresh (λ e. none)

  pub fresh_is : is_serial form ≡ true → (started_of form).listener ≡ silent form (length_of form)
  unfolding started_of
  fresh_is e = rw e

  pub start_known : is_serial form ≡ true → number_in (started_of form).answer ≡ 0
  unfolding started_of
  start_known e = rw e

  pub start_unknown : is_serial form ≡ false → number_in (started_of form).answer ≡ 1
  unfolding started_of
  start_unknown e = rw e

  pub refused_form : number_in (started_of form).answer ≡ 1 → is_serial form ≡ false
  refused_form h = either_way (is_serial form) (λ e. let k = start_known e in absurd (omega arith)) (λ e. e)
