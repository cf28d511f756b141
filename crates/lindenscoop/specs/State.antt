-- A listener in bytes: the ring, then `at`, `kept`, `distance` and `form`, one byte each, the last with the version of this layout.
use Rattle.listener.specs.declared.passing.Moved.{Moved}
use Rattle.std.specs.Prelude.{List, [], ◌∷◌, ◌++◌, ℕ, ◌*◌, ◌+◌, ◌/◌, ◌<◌, get_or, take, Option}
use Rattle.std.specs.Int.Bits.{bit_xor}
use Rattle.spelling.specs.Stored.{stored}
use Rattle.serial.specs.Shape.{shape_of}
use Rattle.listener.specs.Passing.{passing_of}
use Rattle.listener.specs.declared.Listener.{Listener}

-- the bytes of the ring, and of all
abbrev pub ring_size : ℕ
ring_size = 66

abbrev pub state_size : ℕ
state_size = ring_size + 4

-- the version of this layout, which stands in the high four bits of the form's byte
abbrev pub version : ℕ
version = 1

-- the version that bytes carry
abbrev pub version_in : List ℕ → ℕ
version_in s = get_or s (ring_size + 3) 0 / 16

-- the byte of a form's number and the number of a form's byte: exclusive-or leads there and back for every number, so that a byte of another
-- version, whose number is above 15 and no form's, is kept as it is
abbrev pub versioned : ℕ → ℕ
versioned x = bit_xor x (16 * version)

-- the form's number
abbrev pub form_in : List ℕ → ℕ
form_in s = versioned (get_or s (ring_size + 3) 0)

-- the listener that bytes hold; every list of so many bytes is one
unfoldable pub listener_of : List ℕ → Listener
listener_of s =
    record {
      bytes = take ring_size s;
      at = get_or s ring_size 0;
      kept = get_or s (ring_size + 1) 0;
      distance = get_or s (ring_size + 2) 0;
      form = form_in s;
    }

-- the bytes that hold a listener
unfoldable pub state_bytes : Listener → List ℕ
state_bytes l = l.bytes ++ (l.at ∷ l.kept ∷ l.distance ∷ versioned l.form ∷ [])

-- numbers of a listener that are bytes
pub record Small (at kept distance form : ℕ) : Type 0 where
  pub at_fits : at < 256
  pub kept_fits : kept < 256
  pub distance_fits : distance < 256
  pub form_fits : form < 256

abbrev pub Storable : Listener → Type 0
Storable l = Small l.at l.kept l.distance l.form

-- the numbers stored behind the ring
abbrev pub numbered : ℕ → ℕ → ℕ → ℕ → List ℕ → List ℕ
numbered at kept distance form s =
    stored (stored (stored (stored s ring_size (at ∷ [])) (ring_size + 1) (kept ∷ [])) (ring_size + 2) (distance ∷ [])) (ring_size + 3)
    (versioned form ∷ [])

-- what a byte that ends no string leaves of the listener that bytes hold
abbrev pub passing_in : List ℕ → ℕ → Option Moved
passing_in s b = passing_of (shape_of (listener_of s).form) (listener_of s).at (listener_of s).kept (listener_of s).distance b
