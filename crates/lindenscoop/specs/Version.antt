-- A state carries the version of its layout, and one of another layout is refused.
use Rattle.std.specs.Prelude.{true, List, ◌∷◌, ◌≡◌, ℕ}
use Rattle.record.specs.declared.refusal.Refusal.TheVariants as refusal
use Rattle.record.specs.Refusal.{number_of}
use Rattle.lindenscoop.specs.Buffers.{both_fit, state_fits}
use Rattle.lindenscoop.specs.Listener.{FedAllAs, FedAs, StartedAs}
use Rattle.lindenscoop.specs.State.{version, version_in}

-- "Refusal 11 returns the state unchanged.", as bytes; no number of the record changes either
abbrev pub Unchanged : List ℕ → List ℕ → ℕ → List ℕ → List ℕ → Type 0
Unchanged s r n s' r' = (n ≡ number_of refusal.BadState) × (s' ≡ s) × (r' ≡ r)

pub record Versioned : Type 0 where
  -- a state that is started has this version, also where the form is refused
  pub started : (form n : ℕ) (s s' : List ℕ) → state_fits s ≡ true → StartedAs form s n s' → version_in s' ≡ version
  -- a byte that is fed leaves the version as it is
  pub kept : (s r s' r' : List ℕ) (b n : ℕ) → both_fit s r ≡ true → FedAs s b r n s' r' → version_in s' ≡ version_in s
  -- where a state has another version, the byte is refused with 11 and the state is left as it is
  pub refused : (s r s' r' : List ℕ) (b n : ℕ) → both_fit s r ≡ true → (version_in s ≡ version → ⊥) → FedAs s b r n s' r' → Unchanged s r n s' r'
  -- and so is the first of bytes that are fed one after the other
  pub refused_first : (s bytes r s' r' : List ℕ) (b n u' : ℕ) → both_fit s r ≡ true → (version_in s ≡ version → ⊥)
      → FedAllAs s (b ∷ bytes) r n s' u' r' → Unchanged s r n s' r' × (u' ≡ 1)
