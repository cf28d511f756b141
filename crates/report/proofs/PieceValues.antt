-- The answer for a piece goes by the two tests of the definition.
use Rattle.cond.proofs.Kit.{List, ℕ}
use Rattle.report.specs.Piece.{PieceValues, piece_answer}
use Rattle.report.specs.Printed.{records_answer}

pub piece_values : (form : ℕ) (s : List ℕ) (room : ℕ) → PieceValues form s room
unfolding piece_answer records_answer
piece_values form s room =
    record {
      unknown_form = λ e. simp e;
      short_buffer = λ e f. simp (e, f);
      done = λ e f. simp (e, f);
      telegrams = λ e f. simp (e, f);
      bytes = λ e f. simp (e, f);
      carried = λ e f. simp (e, f);
    }
