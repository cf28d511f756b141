-- The variant of a line that decides: the first that fits.
use Rattle.std.specs.Prelude.{Some}
use Rattle.cond.proofs.Kit.{[], ◌++◌, ◌∷◌, ◌≡◌, false, List, refl, true, ℕ}
use Rattle.forms.specs.Block.{Line, variant_at}
use Rattle.forms.specs.Places.{Layout, layout_width, shape, values}
use Rattle.block_lines.specs.Reading.{decoded, line_read, onto}
use Rattle.block_lines.specs.declared.state.State.{State}

module _ (s : List ℕ) where
  -- none of them fits
  abbrev pub NoneFits : Line → Type 0
  NoneFits [] = Unit {0}
  NoneFits (p ∷ ps) = (shape p 0 s ≡ false) × NoneFits ps

  first_fits : (before behind : Line) (p : Layout) → NoneFits before → shape p 0 s ≡ true → variant_at (before ++ (p ∷ behind)) 0 s ≡ p
  unfolding variant_at
  first_fits [] [] p n h = refl
  first_fits [] (q ∷ behind) p n h = rw h
  first_fits (q ∷ []) behind p n h = rw n.0 (first_fits [] behind p tt h)
  first_fits (q ∷ r ∷ before) behind p n h = rw n.0 (first_fits (r ∷ before) behind p n.1 h)

  pub line_found : (before behind : Line) (p : Layout) (b : State) → NoneFits before → shape p 0 s ≡ true
      → Some (layout_width p, onto p (decoded p (values p 0 s)) b) ≡ line_read (before ++ (p ∷ behind)) s b
  unfolding line_read
  line_found before behind p b n h = rw (first_fits before behind p n h, h)
