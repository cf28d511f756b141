-- The start byte of a form stands at the head of a valid string and nowhere else in it.
use Rattle.std.specs.Prelude.{Ok}
use Rattle.cond.proofs.Kit.{[], ◌&&◌, ◌++◌, ◌<◌, ◌∷◌, ◌≡◌, arith, Bool, eqb, eqb-false, eqb-true, false, false≢true, get_or, length, List, not, not-true, subst, suc, true, zero, ℕ}
use Rattle.cond.proofs.Tests.{both}
use Rattle.spelling.specs.Bytes.{all_are}
use Rattle.record.specs.declared.Record.{Record}
use Rattle.forms.specs.Form.{Form, read_by, values_by}
use Rattle.forms.specs.Places.{Layout, bytes_of, fixed, part}
use Rattle.forms.specs.Slots.{Values}
use Rattle.forms.specs.Start.{OnlyAtHead}
use Rattle.forms.proofs.Accepted.{accepted}
use Rattle.forms.proofs.Allowed.{all_at, allows_layout, append_all, layout_all}
use Rattle.forms.proofs.ReadWrite.{own}
use Rattle.forms.proofs.Sound.{is_sound_form, sound_form}

abbrev pub other_than : ℕ → ℕ → Bool
other_than b c = not (eqb c b)

-- the layout starts with b and has it nowhere else
unfoldable pub starts_with : ℕ → Layout → Bool
starts_with b [] = false
starts_with b (part c f ∷ ps) = false
starts_with b (fixed [] ∷ ps) = false
starts_with b (fixed (c ∷ bs) ∷ ps) = eqb c b && (all_are (other_than b) bs && allows_layout (other_than b) ps)

at_head : (b c : ℕ) (s : List ℕ) → c ≡ b → all_are (other_than b) s ≡ true → OnlyAtHead b (c ∷ s)
at_head b c s e h = record { head = e; nowhere_else = other }
  where
    other : (i : ℕ) → 0 < i → i < suc (length s) → get_or (c ∷ s) i 0 ≡ b → ⊥
    other zero l m = absurd (omega arith)
    other (suc i) l m = eqb-false (get_or s i 0) b (not-true (eqb (get_or s i 0) b) (all_at (other_than b) s i h (omega arith)))

layout_head : (b : ℕ) (ps : Layout) (v : Values) → starts_with b ps ≡ true → OnlyAtHead b (bytes_of ps v)
unfolding starts_with bytes_of
layout_head b [] v h = absurd (false≢true h)
layout_head b (part c f ∷ ps) v h = absurd (false≢true h)
layout_head b (fixed [] ∷ ps) v h = absurd (false≢true h)
layout_head b (fixed (c ∷ bs) ∷ ps) v h =
    let e = both (eqb c b) _ h in
    let g = both (all_are (other_than b) bs) (allows_layout (other_than b) ps) e.1 in
    at_head b c (bs ++ bytes_of ps v) (eqb-true c b e.0) (append_all (other_than b) bs (bytes_of ps v) g.0 (layout_all (other_than b) ps v g.1))

pub start_byte_lem : (d : Form) → is_sound_form d ≡ true → (b : ℕ) → starts_with b d.layout ≡ true → (s : List ℕ) (r : Record) → read_by d s ≡ Ok r
    → OnlyAtHead b s
start_byte_lem d o b t s r h = subst (OnlyAtHead b) (own d (sound_form d o) s r (accepted d s r h)) (layout_head b d.layout (values_by d s) t)
