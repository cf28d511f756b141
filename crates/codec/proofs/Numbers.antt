-- The forms by their numbers: those that are not serial stand behind the serial ones, and any other number is that of a serial form or of none.
use Rattle.std.specs.Prelude.{Result}
use Rattle.record.specs.declared.refusal.Refusal.{Refusal}
use Rattle.cond.proofs.Kit.{[], ◌++◌, ◌∙◌, ◌∷◌, ◌≡◌, ◌⊎◌, ap, arith, drop, eqb, inl, inr, length, List, lt-ltb, ltb, refl, suc, sym, zero, ℕ, ⊎_elim}
use Rattle.cond.specs.Pick.{pick}
use Rattle.record.specs.declared.Record.{Record}
use Rattle.record.specs.declared.sign.SignRule.TheVariants.{OneAbove, OneBelow}
use Rattle.forms.specs.Block.{block_of, first_edition}
use Rattle.forms.specs.Form.{Wrote}
use Rattle.forms.specs.Forms.{FormKind, Numbered, WroteAs, all_forms, block, form_kind_of, is_known, is_serial, left_as, serial_forms, sized, unknown, write_as}
use Rattle.forms.specs.Frame.{frame}
use Rattle.forms.specs.Valid.{length_of}
use Rattle.serial.proofs.Lengths.{not_serial, some_serial}
use Rattle.serial.proofs.Numbers.{no_form}

variant_append : (es fs : List Numbered) (n : ℕ) → form_kind_of fs n ≡ unknown → form_kind_of (es ++ fs) n ≡ form_kind_of es n
unfolding form_kind_of
variant_append [] fs n h = h
variant_append (e ∷ es) fs n h = ap (pick (eqb n e.number) e.kind) (variant_append es fs n h)

-- the forms that are not serial
abbrev others : List Numbered
others = drop (length serial_forms) all_forms

-- the last arm of a match over them
pub other_form : (n : ℕ) → (Unit {0} × ((n ≡ 8) ⊎ (n ≡ 11) → ⊥)) × (n ≡ 9 → ⊥) → form_kind_of all_forms n ≡ form_kind_of serial_forms n
other_form n h = variant_append serial_forms others n (no_form others n (((tt, λ e. h.0.1 (inl e)), λ e. h.0.1 (inr e)), h.1))

-- the arm of the frames
pub frame_form_lem : (n : ℕ) → (n ≡ 8) ⊎ (n ≡ 11) → form_kind_of all_forms n ≡ sized (frame (pick (eqb n 8) OneAbove OneBelow))
unfolding form_kind_of
frame_form_lem n h = ⊎_elim (λ e. rw e refl) (λ e. rw e refl) h

pub known_serial : (n : ℕ) → is_known (form_kind_of serial_forms n) ≡ ltb 0 (length_of n)
unfolding is_serial
known_serial n = go (length_of n) refl
  where
    go : (k : ℕ) → length_of n ≡ k → is_serial n ≡ ltb 0 k
    go zero e = not_serial n e
    go (suc k) e = some_serial n (λ z. omega arith) ∙ sym (lt-ltb 0 (suc k) (omega arith))

pub wrote_block : {l : FormKind} {r : Record} {w : Result ℕ Refusal} {before after : List ℕ} → l ≡ block first_edition → Wrote (block_of first_edition r) r w before after → WroteAs l r w before after
unfolding write_as left_as
wrote_block e h = rw e record { answer = h.answer; left = h.left }
