-- Inner: the lines of a record's block, as they are written one behind the other.
use Rattle.std.specs.Prelude.{List, ◌≡◌, ℕ, leb, drop, length, take}
use Rattle.cond.specs.Pick.{pick}
use Rattle.record.specs.declared.Record.{Record}
use Rattle.forms.specs.Block.{block_lines, block_of, choices, chosen_layout, first_edition}
use Rattle.forms.specs.Places.{Layout}
use Rattle.forms.specs.Encode.{encode}
use Rattle.places.specs.Stores.{stores}

-- the layout of k lines from line i on
abbrev pub lines_of : Record → ℕ → ℕ → Layout
lines_of r i k = chosen_layout (take k (drop i block_lines)) (take k (drop i (choices r)))

-- what the contract of `put` says: the whole layout is stored and its width answered, or nothing where there are fewer than 175 bytes
pub record Put (r : Record) (n : ℕ) (before after : List ℕ) : Type 0 where
  pub size : n ≡ pick (leb 175 (length before)) (block_of first_edition r).size 0
  pub left : after ≡ pick (leb 175 (length before)) (stores (block_of first_edition r).layout 0 (encode r) before) before
