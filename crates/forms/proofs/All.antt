-- What a list of tests says: each of them, and all of them where each holds.
use Rattle.cond.proofs.Kit.{[], ◌∷◌, ◌≡◌, Bool, get_or, List, refl, suc, true, zero, ℕ}
use Rattle.cond.proofs.Tests.{both, both_hold}
use Rattle.forms.specs.All.{all}

-- the first test, and the others
pub all_cons : (b : Bool) (bs : List Bool) → all (b ∷ bs) ≡ true → (b ≡ true) × (all bs ≡ true)
all_cons b [] h = (h, refl)
all_cons b (c ∷ bs) h = both b (all (c ∷ bs)) h

pub cons_all : (b : Bool) (bs : List Bool) → b ≡ true → all bs ≡ true → all (b ∷ bs) ≡ true
cons_all b [] h i = h
cons_all b (c ∷ bs) h i = both_hold b (all (c ∷ bs)) h i

-- the test at place i
pub test_at : (bs : List Bool) → all bs ≡ true → (i : ℕ) → get_or bs i true ≡ true
test_at [] h i = refl
test_at (b ∷ bs) h zero = (all_cons b bs h).0
test_at (b ∷ bs) h (suc i) = test_at bs (all_cons b bs h).1 i
