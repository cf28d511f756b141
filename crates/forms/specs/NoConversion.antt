-- W-204: "Neither kind is turned into the other. Refusals: 8 where the wrong kind is there".
use Rattle.std.specs.Prelude.{true, false, List, ◌⊎◌, ◌≡◌, ℕ, take, None}
use Rattle.record.specs.Answers.{read_record, number_in}
use Rattle.record.specs.Record.{is_good}
use Rattle.record.specs.declared.Record.{Record}
use Rattle.forms.specs.Demand2.{length_into, number_into}
use Rattle.forms.specs.Fields.Fraction.{has_fraction}
use Rattle.forms.specs.Fields.Position.{has_position}
use Rattle.forms.specs.Form.{Form, carries}
use Rattle.forms.specs.Forms.{all_forms, form_kind_of, left_form, read_form, sized, write_form}

-- what a form gives back of a record that was written
abbrev pub read_back : ℕ → Record → List ℕ → Record
read_back form r out = read_record (read_form form (take (length_into form r out) (left_form form r out)))

pub record NoConversion : Type 0 where
  -- a fraction or a position comes back as it was, or is absent
  pub same_fraction :
      (form : ℕ) (r : Record) (out : List ℕ) → number_into form r out ≡ 0
      → ((read_back form r out).fraction ≡ r.fraction) ⊎ ((read_back form r out).fraction ≡ None)
  pub same_position :
      (form : ℕ) (r : Record) (out : List ℕ) → number_into form r out ≡ 0
      → ((read_back form r out).position ≡ r.position) ⊎ ((read_back form r out).position ≡ None)
  -- of another kind than the form carries, it is refused with 8
  pub wrong_fraction :
      (form : ℕ) (r : Record) (room : ℕ) (d : Form) → form_kind_of all_forms form ≡ sized d → is_good r ≡ true
      → has_fraction (carries d).fraction r.fraction ≡ false
      → number_in (write_form form r room) ≡ 8
  pub wrong_position :
      (form : ℕ) (r : Record) (room : ℕ) (d : Form) → form_kind_of all_forms form ≡ sized d → is_good r ≡ true
      → has_position (carries d).position r.position ≡ false
      → number_in (write_form form r room) ≡ 8
