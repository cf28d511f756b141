-- A flat chain of tests is the nested one of the definitions.
use Rattle.cond.proofs.Kit.{[], ◌&&◌, ◌∙◌, ◌∷◌, ◌≡◌, and_assoc, and-true, Bool, List, sym, true}

-- the tests in a layout behind a first one
abbrev pub chain : Bool → List Bool → Bool
chain a [] = a
chain a (b ∷ bs) = chain (a && b) bs

-- each test before all that follow
abbrev pub nest : List Bool → Bool
nest [] = true
nest (b ∷ bs) = b && nest bs

pub flat : (a : Bool) (bs : List Bool) → chain a bs ≡ (a && nest bs)
flat a [] = sym (and-true a)
flat a (b ∷ bs) = flat (a && b) bs ∙ and_assoc a b (nest bs)
