-- The array has the flag of each kind at its number; a kind that is none of these is no flag.
use Rattle.std.specs.Prelude.{None, Some, true, false}
use Rattle.cond.proofs.Kit.{[], ◌∷◌, ◌≡◌, ◌≤◌, arith, eqb, get_or, ne_eqb, refl, suc, zero, ℕ}
use Rattle.cond.specs.Pick.{pick}
use Rattle.cond.proofs.Tests.{either_way}
use Rattle.flat_record.specs.declared.decode.Kind.TheVariants as kind
use Rattle.flat_record.specs.Decode.{flag_in, kind_of}
use Rattle.flat_record.proofs.decode.flag_from.Goals as goal

known : (k : ℕ) → k ≤ 2 → get_or (None ∷ (Some false) ∷ (Some true) ∷ None ∷ []) k None ≡ flag_in (kind_of k)
unfolding kind_of
known zero h = refl
known (suc zero) h = refl
known (suc (suc zero)) h = refl
known (suc (suc (suc k))) h = absurd (omega arith)

third_is_none : (k : ℕ) → None ≡ flag_in (pick (eqb k 3) kind.Third kind.Unknown)
third_is_none k = either_way (eqb k 3) (λ e. simp e) (λ e. simp e)

pub returns-then-kind-gt2 : goal.returns-then-kind-gt2
unfolding kind_of
returns-then-kind-gt2 c = let k = c.args.kind in
    simp (ne_eqb k 0 (omega arith), ne_eqb k 1 (omega arith), ne_eqb k 2 (omega arith)) (third_is_none k)

pub returns : goal.returns
unfolding kind_of
returns c = known c.args.kind (omega arith)
