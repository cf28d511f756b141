-- Laws of machines: what holds of every state that is reached, and when two machines answer alike.
use Rattle.cond.proofs.Kit.{[], ◌++◌, ◌∷◌, ◌≡◌, append-nil, append_snoc, List, refl, ℕ}
use Rattle.stream.specs.Machine.{answers, state_after}

-- what holds between the bytes fed so far and the state, and holds still after one byte more, holds after any bytes
pub reached :
    {S : Type 0} (next : S → ℕ → S) (Holds : List ℕ → S → Type 0)
    → ((p : List ℕ) (s : S) (b : ℕ) → Holds p s → Holds (p ++ (b ∷ [])) (next s b))
    → (p : List ℕ) (s : S) (bs : List ℕ) → Holds p s → Holds (p ++ bs) (state_after next s bs)
unfolding state_after
reached next Holds step p s [] h = rw append-nil h
reached next Holds step p s (b ∷ bs) h = rw append_snoc at (reached next Holds step (p ++ (b ∷ [])) (next s b) bs (step p s b h))

-- two machines whose states stay alike from byte to byte are in such states after any bytes
pub same_states :
    {S T : Type 0} (next : S → ℕ → S) (next' : T → ℕ → T) (Alike : S → T → Type 0)
    → ((s : S) (t : T) (b : ℕ) → Alike s t → Alike (next s b) (next' t b))
    → (s : S) (t : T) (bs : List ℕ) → Alike s t → Alike (state_after next s bs) (state_after next' t bs)
unfolding state_after
same_states next next' Alike step s t [] h = h
same_states next next' Alike step s t (b ∷ bs) h = same_states next next' Alike step (next s b) (next' t b) bs (step s t b h)

-- two machines whose states stay alike from byte to byte, and that answer alike in such states, give the same list of answers
pub same_answers :
    {S T H : Type 0} (next : S → ℕ → S) (answer : S → ℕ → H) (next' : T → ℕ → T) (answer' : T → ℕ → H) (Alike : S → T → Type 0)
    → ((s : S) (t : T) (b : ℕ) → Alike s t → Alike (next s b) (next' t b))
    → ((s : S) (t : T) (b : ℕ) → Alike s t → answer s b ≡ answer' t b)
    → (s : S) (t : T) (bs : List ℕ) → Alike s t → answers next answer s bs ≡ answers next' answer' t bs
unfolding answers
same_answers next answer next' answer' Alike step same s t [] h = refl
same_answers next answer next' answer' Alike step same s t (b ∷ bs) h =
    rw (same s t b h, same_answers next answer next' answer' Alike step same (next s b) (next' t b) bs (step s t b h))
