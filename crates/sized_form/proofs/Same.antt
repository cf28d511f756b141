-- The writer's tests, of what was answered and of what that says.
use Rattle.std.proofs.Common.{◌≡◌, Bool, ℕ, Result}
use Rattle.record.specs.declared.refusal.Refusal.{Refusal}
use Rattle.places.specs.Admitted.{admitted}

pub same : {a x b y : Bool} (e : Bool) {n k : ℕ} (m : ℕ) {w : Result ℕ Refusal} → a ≡ x → b ≡ y → n ≡ k → admitted a b e n m ≡ w → admitted x y e k m ≡ w
same e m p q r h = rw (p, q, r) at h
