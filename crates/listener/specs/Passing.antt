-- A byte that ends no string: what it leaves beside the ring.
use Rattle.listener.specs.declared.passing.Moved.{Moved}
use Rattle.std.specs.Prelude.{Bool, ◌&&◌, not, ℕ, ◌+◌, ◌-◌, min, eqb, leb, ltb, Option, None, Some}
use Rattle.cond.specs.Pick.{pick}
use Rattle.serial.specs.declared.Shape.{Shape}
use Rattle.listener.specs.Ring.{place_of, wrapped}

-- none of "more than n-1 bytes kept, or a distance over n", and not the byte that the form's strings end with
abbrev pub passes : Shape → ℕ → ℕ → ℕ → Bool
passes shape kept distance b = ltb kept shape.length && (leb distance shape.length && not (eqb b shape.end))

-- the place where the byte goes, and the next state's numbers: "The kept bytes are always the last n-1 fed"; "any other byte adds one up to n"
unfoldable pub passing_of : Shape → ℕ → ℕ → ℕ → ℕ → Option Moved
passing_of shape at kept distance b =
    pick (passes shape kept distance b)
    (Some (record {
      place = place_of at;
      at = wrapped (place_of at + 1);
      kept = min (kept + 1) (shape.length - 1);
      distance = min shape.length (distance + 1);
    }))
    None
