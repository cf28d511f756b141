-- Parts of a list: what is behind the first bytes of a part, and a part of a part.
use Rattle.cond.proofs.Kit.{[], ◌+◌, ◌∙◌, ◌∷◌, ◌≡◌, ◌≤◌, ap, drop, drop-drop, List, suc, suc-add, sym, take, take-nil, take-take, zero, zero-add, ℕ}

pub drop_take : (w n : ℕ) (l : List ℕ) → drop w (take (w + n) l) ≡ take n (drop w l)
drop_take zero n l = rw zero-add
drop_take (suc w) n [] = rw (suc-add, take-nil)
drop_take (suc w) n (x ∷ l) = rw suc-add (drop_take w n l)

pub inner_part : (s : List ℕ) (k n i w : ℕ) → i + w ≤ n → take w (drop i (take n (drop k s))) ≡ take w (drop (k + i) s)
inner_part s k n i w h =
    sym (drop_take i w (take n (drop k s))) ∙ ap (drop i) (take-take (i + w) n (drop k s) h) ∙ drop_take i w (drop k s) ∙ ap (take w) (drop-drop i k s)
