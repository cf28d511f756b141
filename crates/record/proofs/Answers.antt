-- An answer is a record or a length exactly where its number is 0, since no refusal has this number.
use Rattle.std.specs.Prelude.{Result, Ok, Err, ℕ}
use Rattle.record.specs.declared.Record.{Record}
use Rattle.record.specs.declared.refusal.Refusal.{Refusal}
use Rattle.cond.proofs.Kit.{◌≡◌, refl}
use Rattle.record.specs.Answers.{number_in, read_record, written_length}
use Rattle.record.specs.Record.{empty_record}
use Rattle.record.proofs.Refusals.{never_zero}

pub accepted_read : (a : Result Record Refusal) → number_in a ≡ 0 → a ≡ Ok (read_record a)
accepted_read (Ok r) h = refl
accepted_read (Err x) h = absurd (never_zero x h)

pub accepted_write : (a : Result ℕ Refusal) → number_in a ≡ 0 → a ≡ Ok (written_length a)
accepted_write (Ok n) h = refl
accepted_write (Err x) h = absurd (never_zero x h)

-- "A refused read returns the number and the empty record. A refused write returns the number and length 0"

pub refused_read : (a : Result Record Refusal) → (number_in a ≡ 0 → ⊥) → read_record a ≡ empty_record
refused_read (Ok r) h = absurd (h refl)
refused_read (Err x) h = refl

pub refused_write : (a : Result ℕ Refusal) → (number_in a ≡ 0 → ⊥) → written_length a ≡ 0
refused_write (Ok n) h = absurd (h refl)
refused_write (Err x) h = refl
