-- A piece is reported by its records and by what is carried of it: the filled part of the buffer is the same for both.
use Rattle.std.specs.Prelude.{Result, Err}
use Rattle.report.specs.Piece.{reported}
use Rattle.report.specs.Printed.{listed}
use Rattle.cond.proofs.Kit.{◌+◌, ◌∙◌, ◌≡◌, length, List, min, refl, take, ℕ}
use Rattle.record.specs.declared.refusal.Refusal.{Refusal}
use Rattle.report.specs.Carry.{Carried, carried_of}
use Rattle.report.specs.Piece.{ReportedPiece, and_carried, piece_answer, piece_in}
use Rattle.report.specs.Printed.{WroteRecords}
use Rattle.report.specs.declared.records.Report.{Report}
use Rattle.report.proofs.Moved.{take_least}

module _ (form carried got end : ℕ) (buffer : List ℕ) (is : end ≡ min (carried + got) (length buffer)) where
  filled : take end buffer ≡ piece_in carried got buffer
  filled = rw is (take_least (carried + got) buffer)

  module _ {t : Result Report Refusal} {out out' : List ℕ} (h : WroteRecords form (take end buffer) t out out') where
    answered : and_carried t (length (carried_of form (take end buffer))) ≡ piece_answer form (piece_in carried got buffer) (length out)
    unfolding piece_answer
    answered = rw (h.answer, filled)

    pub reported_lem : {telegrams bytes k : ℕ} {after : List ℕ} → t ≡ listed telegrams bytes → Carried form end k buffer after
        → ReportedPiece form carried got (reported telegrams bytes k) buffer out after out'
    reported_lem {telegrams} {bytes} {k} {after} e c =
        record {
          answer = rw (e, ← c.count) at answered;
          left = c.left ∙ rw filled;
          written = h.left ∙ rw (e, filled);
        }

    pub not_reported : {x : Refusal} → t ≡ Err x → ReportedPiece form carried got (Err x) buffer out buffer out'
    not_reported {x} e = record { answer = rw e at answered; left = refl; written = h.left ∙ rw e }
