-- What holds of each form of a list and of no form holds of the form of any number.
use Rattle.cond.proofs.Kit.{[], ◌∷◌, eqb, eqb-true, List, ℕ}
use Rattle.cond.proofs.Tests.{either_way}
use Rattle.forms.specs.Forms.{FormKind, Numbered, form_kind_of, unknown}

abbrev pub OfEach : (ℕ → FormKind → Type 0) → List Numbered → Type 0
OfEach P [] = Unit {0}
OfEach P (e ∷ es) = P e.number e.kind × OfEach P es

infixr 1 ◌also◌
pub ◌also◌ : {A B : Type 0} → A → B → A × B
a also b = (a, b)

pub by_number : (P : ℕ → FormKind → Type 0) (es : List Numbered) → OfEach P es → ((n : ℕ) → P n unknown) → (n : ℕ) → P n (form_kind_of es n)
unfolding form_kind_of
by_number P [] h u n = u n
by_number P (e ∷ es) h u n =
    either_way (eqb n e.number) (λ t. rw (t, eqb-true n e.number t) h.0) (λ t. rw t (by_number P es h.1 u n))
