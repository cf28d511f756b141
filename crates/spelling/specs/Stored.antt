-- Inner: what a store at a place of a buffer leaves, and what is read of bytes that are too many, on all inputs.
use Rattle.std.specs.Prelude.{List, ℕ, ◌+◌, leb, length}
use Rattle.std.proofs.lemmas.List.Edits.{sets}
use Rattle.cond.specs.Pick.{pick}

-- bytes stored from place k on; where there is no room for all of them nothing changes
unfoldable pub stored : List ℕ → ℕ → List ℕ → List ℕ
stored o k xs = pick (leb (k + length xs) (length o)) (sets o k xs) o

-- a number of up to m bytes, 0 where they are more
unfoldable pub up_to : ℕ → List ℕ → ℕ → ℕ
up_to m s n = pick (leb (length s) m) n 0
