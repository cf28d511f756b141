-- A machine that is fed bytes one by one: a next state and an answer for each state and byte.
use Rattle.std.specs.Prelude.{List, [], ◌∷◌, ℕ}

-- "feed it the list byte by byte, each to the state that the byte before it left": the answers
unfoldable pub answers : {S H : Type 0} → (S → ℕ → S) → (S → ℕ → H) → S → List ℕ → List H
answers next answer s [] = []
answers next answer s (b ∷ bs) = answer s b ∷ answers next answer (next s b) bs

-- the state that the last byte left
unfoldable pub state_after : {S : Type 0} → (S → ℕ → S) → S → List ℕ → S
state_after next s [] = s
state_after next s (b ∷ bs) = state_after next (next s b) bs
