-- W-203: "the two frames of one record differ exactly at 64 and 75, and only where its offset is not zero".
use Rattle.record.specs.declared.refusal.Refusal.{Refusal}
use Rattle.std.specs.Prelude.{false, List, [], ◌∷◌, ◌≡◌, ℕ, suc, eqb, nat_abs, Option, Result, Ok, Err, ℤ}
use Rattle.cond.specs.Pick.{pick}
use Rattle.record.specs.declared.Record.{Record}
use Rattle.record.specs.declared.sign.SignRule.{SignRule}
use Rattle.forms.specs.Demand2.{number_into}
use Rattle.forms.specs.Fields.Offset.{minutes_of, opposite}
use Rattle.forms.specs.Forms.{frame_form, is_serial, left_form, read_form, write_form}
use Rattle.forms.specs.Records.{fields}

-- the places at which two strings differ, or that one of them has alone; the first byte is at k
unfoldable pub differences : ℕ → List ℕ → List ℕ → List ℕ
differences k [] [] = []
differences k [] (y ∷ ys) = k ∷ differences (suc k) [] ys
differences k (x ∷ xs) [] = k ∷ differences (suc k) xs []
differences k (x ∷ xs) (y ∷ ys) = pick (eqb x y) (differences (suc k) xs ys) (k ∷ differences (suc k) xs ys)

-- the record with this offset, all else as it is
abbrev pub record_with : Record → Option ℤ → Record
record_with r o =
    fields r.date r.hour r.minute r.second r.fraction r.channel r.sync r.fix r.utc r.summer r.change r.leap
    o r.position r.dsp r.lsp

-- the answer with the offset's sign turned
abbrev pub turned : Result Record Refusal → Result Record Refusal
turned (Ok r) = Ok (record_with r (opposite r.offset))
turned (Err x) = Err x

pub record FrameSigns : Type 0 where
  -- forms 8 and 11 are written or refused alike
  pub alike : (r : Record) (room : ℕ) → write_form 8 r room ≡ write_form 11 r room
  -- where they are written, the buffers "differ exactly at 64 and 75, and only where its offset is not zero"
  pub exactly :
      (r : Record) (out : List ℕ) → number_into 8 r out ≡ 0
      → differences 0 (left_form 8 r out) (left_form 11 r out) ≡ pick (eqb (nat_abs (minutes_of r.offset)) 0) [] (64 ∷ 75 ∷ [])
  -- search and listener take neither
  pub not_serial : (x : SignRule) → is_serial (frame_form x) ≡ false
  -- the same bytes are refused alike, or read as records that differ in the offset's sign alone
  pub opposites : (s : List ℕ) → read_form 8 s ≡ turned (read_form 11 s)
