-- Every valid string of a form ends with the last byte of its layout.
use Rattle.std.specs.Prelude.{Ok}
use Rattle.cond.proofs.Kit.{[], ◌++◌, ◌+◌, ◌-◌, ◌<◌, ◌∙◌, ◌∷◌, ◌≡◌, append-nil, arith, Bool, false, false≢true, get_or, length, length-append, List, ltb, ltb-true, refl, subst, suc, true, ℕ}
use Rattle.record.specs.declared.Record.{Record}
use Rattle.forms.specs.Form.{Form, read_by, values_by}
use Rattle.forms.specs.Places.{Layout, bytes_of, fixed, part, placed}
use Rattle.forms.specs.Slots.{Values}
use Rattle.forms.specs.Valid.{end_byte, last_byte}
use Rattle.forms.proofs.Accepted.{accepted}
use Rattle.forms.proofs.ReadWrite.{own}
use Rattle.forms.proofs.Sound.{is_sound_form, sound_form}

-- the layout ends with fixed bytes
unfoldable pub ends_fixed : Layout → Bool
ends_fixed [] = false
ends_fixed (part c f ∷ []) = false
ends_fixed (fixed bs ∷ []) = ltb 0 (length bs)
ends_fixed (p ∷ q ∷ ps) = ends_fixed (q ∷ ps)

get_d_behind : (a b : List ℕ) (i : ℕ) → get_or (a ++ b) (length a + i) 0 ≡ get_or b i 0
get_d_behind [] b i = let e : 0 + i ≡ i = omega arith in rw e
get_d_behind (x ∷ a) b i = let e : suc (length a) + i ≡ suc (length a + i) = omega arith in rw e (get_d_behind a b i)

last_behind : (a b : List ℕ) → 0 < length b → last_byte (a ++ b) ≡ last_byte b
last_behind a b h =
    let e : length a + length b - 1 ≡ length a + (length b - 1) = omega arith in
    rw (length-append, e) (get_d_behind a b (length b - 1))

some_bytes : (ps : Layout) (v : Values) → ends_fixed ps ≡ true → 0 < length (bytes_of ps v)
unfolding ends_fixed bytes_of
some_bytes [] v h = absurd (false≢true h)
some_bytes (part c f ∷ []) v h = absurd (false≢true h)
some_bytes (fixed bs ∷ []) v h = rw append-nil (ltb-true 0 (length bs) h)
some_bytes (p ∷ q ∷ ps) v h = let l = some_bytes (q ∷ ps) v h in rw length-append (omega arith)

layout_end : (ps : Layout) (v : Values) → ends_fixed ps ≡ true → last_byte (bytes_of ps v) ≡ end_byte ps
unfolding ends_fixed bytes_of
layout_end [] v h = absurd (false≢true h)
layout_end (part c f ∷ []) v h = absurd (false≢true h)
layout_end (fixed bs ∷ []) v h = rw append-nil refl
layout_end (p ∷ q ∷ ps) v h = last_behind (placed p v) (bytes_of (q ∷ ps) v) (some_bytes (q ∷ ps) v h) ∙ layout_end (q ∷ ps) v h

pub end_byte_lem : (d : Form) → is_sound_form d ≡ true → ends_fixed d.layout ≡ true → (s : List ℕ) (r : Record) → read_by d s ≡ Ok r
    → last_byte s ≡ end_byte d.layout
end_byte_lem d o t s r h =
    subst (λ (x : List ℕ). last_byte x ≡ end_byte d.layout) (own d (sound_form d o) s r (accepted d s r h)) (layout_end d.layout (values_by d s) t)
