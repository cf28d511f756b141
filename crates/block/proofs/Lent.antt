-- A layout stored into the part of a buffer from a column onward is the layout stored at that column.
use Rattle.cond.proofs.Kit.{[], ◌++◌, ◌+◌, ◌-◌, ◌∙◌, ◌∷◌, ◌≡◌, ◌≤◌, ap, append-nil, arith, drop, drop-length, leb, leb-false, leb-true, length, length-append, length-drop, length-take-le, List, refl, set, sets, suc, sym, take, take_all, take-append-drop, ℕ}
use Rattle.cond.proofs.Tests.{either_way}
use Rattle.forms.specs.Places.{Place, Layout, fixed, layout_width, part, placed, width}
use Rattle.forms.specs.Slots.{Slot, Values}
use Rattle.spelling.specs.Spelling.{spell}
use Rattle.spelling.specs.Stored.{stored}
use Rattle.spelling.proofs.Stored.{stored_in, stored_out}
use Rattle.places.specs.Stores.{stores}
use Rattle.places.proofs.Stored.{stores_append}
use Rattle.forms.proofs.Append.{width_append}
use Rattle.block_lines.specs.Stores.{Laid}

set_behind : (a b : List ℕ) (j x : ℕ) → set (a ++ b) (j + length a) x ≡ a ++ set b j x
set_behind [] b j x =
    let e : j + 0 ≡ j = omega arith in
    ap (λ (n : ℕ). set b n x) e
set_behind (y ∷ a) b j x =
    let e : j + suc (length a) ≡ suc (j + length a) = omega arith in
    ap (λ (n : ℕ). set (y ∷ (a ++ b)) n x) e ∙ ap (λ (l : List ℕ). y ∷ l) (set_behind a b j x)

sets_behind : (a b : List ℕ) (j : ℕ) (xs : List ℕ) → sets (a ++ b) (j + length a) xs ≡ a ++ sets b j xs
sets_behind a b j [] = refl
sets_behind a b j (x ∷ xs) =
    let e : suc (j + length a) ≡ suc j + length a = omega arith in
    ap (λ (l : List ℕ). sets l (suc (j + length a)) xs) (set_behind a b j x) ∙ ap (λ (n : ℕ). sets (a ++ set b j x) n xs) e
    ∙ sets_behind a (set b j x) (suc j) xs

stored_behind : (a b : List ℕ) (j : ℕ) (xs : List ℕ) → stored (a ++ b) (j + length a) xs ≡ a ++ stored b j xs
stored_behind a b j xs =
    either_way (leb (j + length xs) (length b))
    (λ e.
    let h = leb-true (j + length xs) (length b) e in
    stored_in (a ++ b) (j + length a) xs (omega (arith, length-append a b)) ∙ sets_behind a b j xs ∙ ap (λ (l : List ℕ). a ++ l) (sym (stored_in b j xs h)))
    (λ e.
    let h = leb-false (j + length xs) (length b) e in
    stored_out (a ++ b) (j + length a) xs (omega (arith, length-append a b)) ∙ ap (λ (l : List ℕ). a ++ l) (sym (stored_out b j xs h)))

stores_behind : (ps : Layout) (v : Values) (a b : List ℕ) (j : ℕ) → stores ps (j + length a) v (a ++ b) ≡ a ++ stores ps j v b
unfolding stores
stores_behind [] v a b j = refl
stores_behind (p ∷ ps) v a b j =
    let e : width p + (j + length a) ≡ width p + j + length a = omega arith in
    ap (λ (l : List ℕ). stores ps (width p + (j + length a)) v l) (stored_behind a b j (placed p v))
    ∙ ap (λ (n : ℕ). stores ps n v (a ++ stored b j (placed p v))) e
    ∙ stores_behind ps v a (stored b j (placed p v)) (width p + j)

-- only what the layout's slots tell counts
place_same : (p : Place) (v w : Values) → ((f : Slot) → v f ≡ w f) → placed p v ≡ placed p w
place_same (fixed bs) v w h = refl
place_same (part c f) v w h = ap (spell c) (h f)

pub stores_same : (ps : Layout) (k : ℕ) (v w : Values) (o : List ℕ) → ((f : Slot) → v f ≡ w f) → stores ps k v o ≡ stores ps k w o
unfolding stores
stores_same [] k v w o h = refl
stores_same (p ∷ ps) k v w o h =
    ap (λ (x : List ℕ). stores ps (width p + k) v (stored o k x)) (place_same p v w h) ∙ stores_same ps (width p + k) v w (stored o k (placed p w)) h

-- what is lent from a column onward

-- the part from a column onward is what is left behind it
pub lent_whole : (x : List ℕ) (m : ℕ) → take (length x - m) (drop m x) ≡ drop m x
lent_whole x m = take_all (length x - m) (drop m x) (omega (arith, length-drop m x))

pub lent : (ps : Layout) (v : Values) (x y : List ℕ) (at : ℕ) → at ≤ length x → y ≡ stores ps 0 v (take (length x - at) (drop at x))
    → take at x ++ (y ++ drop (length x - at) (drop at x)) ≡ stores ps at v x
lent ps v x y at h e =
    let l : length x - at ≡ length (drop at x) = sym (length-drop at x) in
    let none : drop (length x - at) (drop at x) ≡ [] = ap (λ (n : ℕ). drop n (drop at x)) l ∙ drop-length (drop at x) in
    let k : 0 + length (take at x) ≡ at = omega (arith, length-take-le at x h) in
    ap (λ (z : List ℕ). take at x ++ (y ++ z)) none ∙ ap (λ (z : List ℕ). take at x ++ z) (append-nil y ∙ e ∙ ap (stores ps 0 v) (lent_whole x at))
    ∙ sym (stores_behind ps v (take at x) (drop at x) 0)
    ∙ ap (λ (n : ℕ). stores ps n v (take at x ++ drop at x)) k
    ∙ ap (stores ps at v) (take-append-drop at x)

-- a line behind lines that stand at the head of the buffer
pub laid_next : (a b : Layout) (v : Values) (n m : ℕ) (o x y : List ℕ) → n ≤ length x → Laid a v n o x → Laid b v m (take (length x - n) (drop n x)) y
    → Laid (a ++ b) v (n + m) o (take n x ++ (y ++ drop (length x - n) (drop n x)))
laid_next a b v n m o x y h p q =
    let e : n ≡ layout_width a + 0 = omega (arith, p.0) in
    (omega (arith, p.0, q.0, width_append a b), lent b v x y n h q.1 ∙ rw (e, p.1) (sym (stores_append a b 0 v o)))
