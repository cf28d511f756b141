-- The number of up to m bytes is what the place tells, and 0 where the part has another width.
use Rattle.cond.proofs.Kit.{◌≡◌, leb, length, List, ne_eqb, ℕ}
use Rattle.cond.specs.Pick.{pick}
use Rattle.cond.proofs.Tests.{either_way}
use Rattle.spelling.specs.Spelling.{Spelling, number_by, spelled_width, value_of}
use Rattle.spelling.specs.Stored.{up_to}
use Rattle.spelling.proofs.Spelling.{sized_value}

module _ (c : Spelling) (m : ℕ) (x : List ℕ) where
  pub wrong_width : (length x ≡ spelled_width c → ⊥) → 0 ≡ pick (leb (spelled_width c) m) (value_of c x) 0
  unfolding value_of
  wrong_width h = rw (ne_eqb (length x) (spelled_width c) h) (either_way (leb (spelled_width c) m) (λ e. simp e) (λ e. simp e))

  pub right_width : length x ≡ spelled_width c → up_to m x (number_by c x) ≡ pick (leb (spelled_width c) m) (value_of c x) 0
  unfolding up_to
  right_width e = rw (e, sized_value x c e)
