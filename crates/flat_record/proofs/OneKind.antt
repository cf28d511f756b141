-- A number that is none of a field's kinds does not fit it: a field of one kind, and one of two.
use Rattle.cond.proofs.Kit.{◌≡◌, Bool, eqb, false, ne_eqb, ℕ}
use Rattle.cond.proofs.Tests.{either_way}
use Rattle.flat_record.specs.Decode.{fits_if_either, fits_if_there, kind_of}

pub none_fits : (n : ℕ) (b : Bool) → (n ≡ 0 → ⊥) → (n ≡ 1 → ⊥) → false ≡ fits_if_there (kind_of n) b
unfolding kind_of
none_fits n b h k =
    simp (ne_eqb n 0 h, ne_eqb n 1 k) (either_way (eqb n 2) (λ e. simp e) (λ e. simp e (either_way (eqb n 3) (λ f. simp f) (λ f. simp f))))

pub neither_fits : (n : ℕ) (b : Bool) → (n ≡ 0 → ⊥) → (n ≡ 1 → ⊥) → (n ≡ 2 → ⊥) → false ≡ fits_if_either (kind_of n) b
unfolding kind_of
neither_fits n b h k l = simp (ne_eqb n 0 h, ne_eqb n 1 k, ne_eqb n 2 l) (either_way (eqb n 3) (λ e. simp e) (λ e. simp e))
