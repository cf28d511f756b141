-- The last bytes of a list: how many they are, and that one byte more needs only those.
use Rattle.cond.proofs.Kit.{[], ◌++◌, ◌+◌, ◌-◌, ◌∷◌, ◌≡◌, ◌≤◌, arith, drop, drop-append-le, drop-drop, drop-nil, length, length-append, length-drop, List, min, sym, take_all, ℕ}
use Rattle.stream.specs.Window.{last_of, window}

pub length_last : (m : ℕ) (s : List ℕ) → length (last_of m s) ≡ min m (length s)
unfolding last_of
length_last m s = rw length-drop (omega arith)

-- the last n of the last m bytes and those behind are the last n of all, where n is at most m and as many more as stand behind
pub last_last : (m n : ℕ) (s t : List ℕ) → n ≤ m + length t → last_of n (last_of m s ++ t) ≡ last_of n (s ++ t)
unfolding last_of
last_last m n s t l =
    let e : length s - m + (length s + length t - (length s - m) - n) ≡ length s + length t - n = omega arith in
    rw (← drop-append-le (length s - m) s t (omega arith), drop-drop, length-drop, length-append, e)

pub none_last : (m : ℕ) → last_of m [] ≡ []
unfolding last_of
none_last m = drop-nil (0 - m)

-- the last n bytes are the window that ends with the last one
pub last_window : (n : ℕ) (p : List ℕ) (b : ℕ) → last_of n (p ++ (b ∷ [])) ≡ window n (p ++ (b ∷ [])) (length p + 1 - n)
unfolding last_of
last_window n p b =
    rw length-append (sym (take_all n (drop (length p + 1 - n) (p ++ (b ∷ []))) (rw (length-drop, length-append) (omega arith))))
