-- What writing answers to numbers that are a record, and to others.
use Rattle.std.specs.Prelude.{Result, Ok, Err}
use Rattle.cond.proofs.Kit.{◌≡◌, false, List, true, ℕ}
use Rattle.record.specs.declared.Record.{Record}
use Rattle.record.specs.declared.refusal.Refusal.{Refusal}
use Rattle.record.specs.declared.refusal.Refusal.TheVariants as refusal
use Rattle.forms.specs.Forms.{WroteAs, all_forms, form_kind_of, is_known, left_form, write_form}
use Rattle.flat_record.specs.Decode.{record_of}
use Rattle.lindenscoop.specs.Telegrams.{WroteNumbers, left_with, writing_of}

module _ (form : ℕ) (r before : List ℕ) where
  pub wrote : (x : Record) → record_of r ≡ Ok x → {w : Result ℕ Refusal} {after : List ℕ} → WroteAs (form_kind_of all_forms form) x w before after
      → WroteNumbers form r w before after
  unfolding writing_of left_with write_form left_form
  wrote x e h = record { answer = rw e h.answer; left = rw e h.left }

  module _ (x : Refusal) (e : record_of r ≡ Err x) where
    pub no_record : is_known (form_kind_of all_forms form) ≡ true → WroteNumbers form r (Err x) before before
    unfolding writing_of left_with
    no_record h = record { answer = rw (e, h); left = rw e }

    pub no_form : is_known (form_kind_of all_forms form) ≡ false → WroteNumbers form r (Err refusal.UnknownForm) before before
    unfolding writing_of left_with
    no_form h = record { answer = rw (e, h); left = rw e }
