-- Inner: what storing a layout place by place leaves in a buffer.
use Rattle.std.specs.Prelude.{List, [], ◌∷◌, ℕ, ◌+◌, ◌/◌, ◌%◌}
use Rattle.spelling.specs.Bytes.{decimal}
use Rattle.spelling.specs.Stored.{stored}
use Rattle.forms.specs.Places.{Layout, placed, width}
use Rattle.forms.specs.Slots.{Values}

-- each place of a layout stored where it stands, from k on
unfoldable pub stores : Layout → ℕ → Values → List ℕ → List ℕ
stores [] k v o = o
stores (p ∷ ps) k v o = stores ps (width p + k) v (stored o k (placed p v))

-- three numbers of two digits with a separator between them, stored at k
abbrev pub pairs_stored : List ℕ → ℕ → ℕ → ℕ → ℕ → ℕ → List ℕ
pairs_stored o k b x y z =
    stored (stored (stored (stored (stored o k (decimal 2 x)) (k + 2) (b ∷ [])) (k + 3) (decimal 2 y)) (k + 5) (b ∷ [])) (k + 6) (decimal 2 z)

-- three numbers of two digits side by side, stored at k
abbrev pub triple_stored : List ℕ → ℕ → ℕ → ℕ → ℕ → List ℕ
triple_stored o k x y z = stored (stored (stored o k (decimal 2 x)) (k + 2) (decimal 2 y)) (k + 4) (decimal 2 z)

-- `mm.hh` of so many hundredths of a minute, stored at k; whole degrees are left out
abbrev pub arc_stored : List ℕ → ℕ → ℕ → List ℕ
arc_stored o k n = stored (stored (stored o k (decimal 2 (n % 6000 / 100))) (k + 2) (46 ∷ [])) (k + 3) (decimal 2 (n % 100))
