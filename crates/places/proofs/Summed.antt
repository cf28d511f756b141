-- The sum taken over the bytes that the buffer holds in front of it is the string's own.
use Rattle.cond.proofs.Kit.{[], ◌++◌, ◌+◌, ◌∙◌, ◌∷◌, ◌≡◌, ◌≤◌, ap, arith, drop, length, List, refl, sym, take, take_at, take-take, true, ℕ}
use Rattle.cond.proofs.Parts.{drop_take}
use Rattle.cond.proofs.Tests.{both}
use Rattle.forms.specs.Checksum.{Checksum, checksum_of, total_by}
use Rattle.forms.specs.Places.{Layout, bytes_of, layout_width}
use Rattle.forms.specs.Slots.{Values}
use Rattle.forms.proofs.Append.{bytes_append}
use Rattle.forms.proofs.Layouts.{bytes_length, roomy, roomy_layout, sound_layout}
use Rattle.places.specs.Stores.{stores}
use Rattle.places.proofs.Stored.{stores_laid}

-- a layout's first piece has room where the layout has
pub roomy_front : (ps qs : Layout) (v : Values) → roomy_layout (ps ++ qs) v ≡ true → roomy_layout ps v ≡ true
unfolding roomy_layout
roomy_front [] qs v h = refl
roomy_front (p ∷ ps) qs v h =
    let a = both (roomy p v) (roomy_layout (ps ++ qs) v) h in
    simp (a.0, roomy_front ps qs v a.1)

-- what hangs on the first bytes alone
part_alike : (s t : List ℕ) (from n w : ℕ) → take w s ≡ take w t → from + n ≤ w → take n (drop from s) ≡ take n (drop from t)
part_alike s t from n w e h =
    sym (drop_take from n s)
    ∙ ap (drop from) (sym (take-take (from + n) w s h) ∙ ap (take (from + n)) e ∙ take-take (from + n) w t h)
    ∙ drop_take from n t

module _ (ps qs : Layout) (v : Values) (o : List ℕ) (s : sound_layout ps ≡ true) (m : roomy_layout ps v ≡ true) (h : layout_width ps ≤ length o) where
  -- a layout's first piece, stored at the head of a buffer, stands there as in the layout's bytes
  front_bytes : take (layout_width ps) (stores ps 0 v o) ≡ take (layout_width ps) (bytes_of (ps ++ qs) v)
  front_bytes =
      let l = bytes_length ps v s m in
      ap (take (layout_width ps)) (stores_laid ps 0 v o s m (omega arith)) ∙ take_at (bytes_of ps v) _ (layout_width ps) l
      ∙ sym (ap (take (layout_width ps)) (bytes_append ps qs v) ∙ take_at (bytes_of ps v) (bytes_of qs v) (layout_width ps) l)

  -- and so does the sum over bytes of that piece
  pub front_checksum : (c : Checksum) → c.from + c.count ≤ layout_width ps → checksum_of c (stores ps 0 v o) ≡ checksum_of c (bytes_of (ps ++ qs) v)
  front_checksum c l = ap (total_by c.rule) (part_alike _ _ c.from c.count (layout_width ps) front_bytes l)
