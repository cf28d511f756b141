-- Inner: what the writers of the block's lines leave in a buffer.
use Rattle.std.specs.Prelude.{◌≡◌, Bool, List, [], ◌∷◌, ℕ, ◌+◌, ◌/◌, ◌%◌, get_or, Option, None, Some, true, false}
use Rattle.cond.specs.Pick.{one_if}
use Rattle.spelling.specs.Bytes.{decimal, letters, text}
use Rattle.spelling.specs.Stored.{stored}
use Rattle.forms.specs.Places.{Layout, layout_width}
use Rattle.forms.specs.Slots.{Values}
use Rattle.places.specs.Stores.{arc_stored, stores}

-- a layout was stored from the head of the buffer on, and its width is the answer
abbrev pub Laid : Layout → Values → ℕ → List ℕ → List ℕ → Type 0
Laid ps v n before after = (n ≡ layout_width ps) × (after ≡ stores ps 0 v before)

-- plus, or minus where it is so
abbrev pub sign_text : Bool → List ℕ
sign_text t = get_or (letters (43 ∷ 45 ∷ [])) (one_if t) []

-- "`+047.3500`", at k
abbrev pub degrees_stored : List ℕ → ℕ → Bool → ℕ → List ℕ
degrees_stored o k t n =
    stored (stored (stored (stored o k (sign_text t)) (k + 1) (decimal 3 (n / 10000))) (k + 4) (46 ∷ [])) (k + 5) (decimal 4 (n % 10000))

-- "`+00803.75`", at k, with w digits of degrees
abbrev pub minutes_stored : List ℕ → ℕ → ℕ → Bool → ℕ → List ℕ
minutes_stored o k w t n =
    arc_stored (stored (stored o k (sign_text t)) (k + 1) (decimal w (n / 6000))) (k + 1 + w) n

-- "(`yes`/`no`)", "`-` is absent"
abbrev pub flag_text : Option Bool → List ℕ
flag_text None = text "-"
flag_text (Some false) = text "no"
flag_text (Some true) = text "yes"
