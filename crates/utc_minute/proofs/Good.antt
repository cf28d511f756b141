-- A record that was read is good: the writer takes it again (demand 2), and a writer takes no bad record. So its time and its offset are in range.
use Rattle.std.specs.Prelude.{Some, Ok}
use Rattle.cond.proofs.Kit.{◌&&◌, ◌*◌, ◌+◌, ◌<◌, ◌∙◌, ◌≡◌, ◌≤◌, ap, arith, Bool, false, le_refl, leb, leb-true, length, List, ltb, ltb-true, nat_abs, refl, sym, true, ℕ, ℤ}
use Rattle.cond.proofs.Tests.{both}
use Rattle.record.specs.Answers.{number_in, read_record}
use Rattle.record.specs.Record.{is_good, offset_in_range, time_in_range}
use Rattle.record.specs.declared.Record.{Record}
use Rattle.forms.specs.Forms.{all_forms, form_kind_of, has_carried_form, is_known, read_form, write_form}
use Rattle.forms.specs.WriterNumbers.{has_no_word, number_after, output_size}
use Rattle.forms.proofs.Bounds.{good}
use Rattle.forms.proofs.Demand2.{demand_2}
use Rattle.forms.proofs.WriterNumbers.{writer_numbers}

taken_good : (good complete no_word roomy : Bool) → number_after good complete no_word roomy ≡ 0 → good ≡ true
taken_good true c w b h = refl
taken_good false c w b h = absurd (omega arith)

module _ (form : ℕ) (s : List ℕ) (r : Record) (h : read_form form s ≡ Ok r) where
  written_again : number_in (write_form form r (length s)) ≡ 0
  written_again = (demand_2.again form s r s (ap number_in h, ap read_record h) (le_refl (length s))).0

  pub read_good : is_good r ≡ true
  read_good = go (is_known (form_kind_of all_forms form)) refl
    where
      go : (b : Bool) → is_known (form_kind_of all_forms form) ≡ b → is_good r ≡ true
      go false e = absurd (omega (arith, writer_numbers.one form r (length s) e, written_again))
      go true e =
          taken_good (is_good r) (has_carried_form form r) (has_no_word form r) (leb (output_size (form_kind_of all_forms form) r) (length s))
          (sym (writer_numbers.others form r (length s) e) ∙ written_again)

module _ (r : Record) (h : is_good r ≡ true) where
  pub minute_lt : r.hour * 60 + r.minute < 1440
  unfolding time_in_range
  minute_lt =
      let t = both (ltb r.hour 24) (ltb r.minute 60 && leb r.second 60) (good r h).time in
      omega (arith, ltb-true r.hour 24 t.0, ltb-true r.minute 60 (both (ltb r.minute 60) (leb r.second 60) t.1).0)

  pub offset_le : (z : ℤ) → r.offset ≡ Some z → nat_abs z ≤ 840
  unfolding offset_in_range
  offset_le z e = leb-true (nat_abs z) 840 (sym (ap offset_in_range e) ∙ (good r h).offset)
