-- What a caller of `report_piece` may rely on: as many telegrams as the piece has strings, no more bytes than the output has, the last bytes
-- carried, and no refusal where there is room.
use Rattle.std.specs.Prelude.{Result, Err}
use Rattle.report.specs.Piece.{reported}
use Rattle.report.specs.Printed.{listed}
use Rattle.cond.proofs.Kit.{◌++◌, ◌+◌, ◌-◌, ◌/◌, ◌<◌, ◌∙◌, ◌≡◌, ◌≤◌, ap, arith, Bool, drop, false, le-leb, leb, length, length-append, List, refl, sym, take, take_at, true, ℕ}
use Rattle.cond.specs.Pick.{pick}
use Rattle.record.specs.declared.refusal.Refusal.{Refusal}
use Rattle.record.specs.declared.refusal.Refusal.TheVariants as refusal
use Rattle.forms.specs.Forms.{is_serial}
use Rattle.forms.specs.Valid.{length_of, valid_of}
use Rattle.serial.proofs.Lengths.{serial_long, some_serial}
use Rattle.stream.proofs.Few.{few}
use Rattle.stream.proofs.Window.{length_last}
use Rattle.report.specs.Carry.{carried_of}
use Rattle.report.specs.Piece.{ReportedPiece, and_carried, piece_answer, piece_bytes, piece_carried, piece_in, piece_telegrams}
use Rattle.report.specs.Printed.{printed, records_answer, records_in}
use Rattle.report.specs.declared.piece.PieceReport.{PieceReport}

answered : (a b : Bool) (count size most c k d : ℕ)
    → reported c k d
    ≡ and_carried (pick a (pick b (listed count size) (Err refusal.ShortBuffer)) (Err refusal.UnknownForm)) most
    → (a ≡ true) × (c ≡ count) × (k ≡ size) × (d ≡ most)
answered false b count size most c k d h = absurd (let z : ◌≡◌ {A = ℕ} 0 1 = cc in omega arith)
answered true true count size most c k d h = (refl, ap piece_telegrams h, ap piece_bytes h, ap piece_carried h)
answered true false count size most c k d h = absurd (let z : ◌≡◌ {A = ℕ} 0 1 = cc in omega arith)

module _ {form carried got : ℕ} {t : Result PieceReport Refusal} {buffer out buffer' out' : List ℕ} (h : ReportedPiece form carried got t buffer out buffer' out') where
  abbrev s : List ℕ
  s = piece_in carried got buffer

  pub not_refused_lem : 0 < length_of form → length s ≤ length out / 11 → {x : Refusal} → t ≡ Err x → ⊥
  unfolding piece_answer records_answer
  not_refused_lem known room {x} e =
      let told : t ≡ reported (length (records_in form s)) (length (printed (records_in form s))) (length (carried_of form s)) =
      h.answer ∙ rw (some_serial form (λ e. omega arith), le-leb (length s) (length out / 11) room) in
      let z : ◌≡◌ {A = ℕ} 0 1 = cc in
      omega arith

  module _ {c k d : ℕ} (e : t ≡ reported c k d) where
    sizes : (is_serial form ≡ true) × (c ≡ length (records_in form s)) × (k ≡ length (printed (records_in form s))) × (d ≡ length (carried_of form s))
    unfolding piece_answer records_answer
    sizes = answered (is_serial form) (leb (length s) (length out / 11)) _ _ _ c k d (sym e ∙ h.answer)

    pub written_serial : is_serial form ≡ true
    written_serial = sizes.0

    pub written_count : c ≡ length (records_in form s)
    written_count = sizes.1

    text_left : out' ≡ printed (records_in form s) ++ drop k out
    text_left = h.written ∙ rw e

    pub written_inside : k ≤ length out'
    written_inside = omega (arith, sizes.2, ap length text_left, length-append (printed (records_in form s)) (drop k out))

    -- the bytes to print
    pub written_text : take k out' ≡ printed (records_in form s)
    written_text = rw text_left (take_at (printed (records_in form s)) (drop k out) k (sym sizes.2))

    -- the bytes carried
    pub carried_bytes : take d buffer' ≡ carried_of form s
    carried_bytes =
        let left : buffer' ≡ carried_of form s ++ drop d buffer = h.left ∙ rw e in
        rw left (take_at (carried_of form s) (drop d buffer) d (sym sizes.3))

    -- fewer than a string has
    pub carried_short : d < length_of form
    unfolding carried_of
    carried_short = omega (arith, sizes.3, serial_long form sizes.0, length_last (length_of form - 1) s)

    -- a piece of m bytes behind fewer than n bytes has at most m telegrams
    pub written_few : (k m : ℕ) → k < length_of form → length s ≡ k + m → c ≤ m
    written_few k m l q = omega (arith, written_count, few (length_of form) (valid_of form) s k m l q)
