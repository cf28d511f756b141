-- What the program has read and counted: "`end bytes=` with the number of stream bytes and ` telegrams=` with the number of records".
use mathlib.Core.List.{List, flatten}
use Rattle.std.specs.Prelude.{◌≡◌, ℕ, length}
use Rattle.report.specs.Stream.{Reported}

-- the bytes of some pieces that were read one behind the other, and the telegrams of a call of `report_piece` for each; the last one left
-- the bytes carried at the head of the buffer
pub record Counted (form carried : ℕ) (buffer : List ℕ) (bytes telegrams : ℕ) : Type 0 where
  pub pieces : List (List ℕ)
  pub text : List ℕ
  pub run : Reported form pieces carried buffer text telegrams
  pub size : bytes ≡ length (flatten pieces)
