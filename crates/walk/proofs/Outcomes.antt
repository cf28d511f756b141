-- What the outcome of a test says of it. In a module of its own, so that an edit of it is refused here and not where it is cited.
use Rattle.walk.proofs.Kit.{◌≡◌, Bool, T, false, not, refl, true}

pub holds : (b : Bool) → T b → b ≡ true
holds true h = refl
holds false h = absurd h

pub fails : (b : Bool) → T (not b) → b ≡ false
fails true h = absurd h
fails false h = refl
