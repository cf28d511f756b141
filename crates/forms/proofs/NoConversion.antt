-- What a form carries of a fraction or a position is the field itself or nothing, and a writer asks for its kind.
use Rattle.std.specs.Prelude.{Option, None}
use Rattle.cond.proofs.Kit.{◌∙◌, ◌≡◌, ◌⊎◌, ap, false≢true, inl, inr, refl, sym, true, ℕ, ⊎_elim}
use Rattle.cond.proofs.Tests.{either_way}
use Rattle.record.specs.Answers.{number_in}
use Rattle.record.specs.Record.{is_good}
use Rattle.record.specs.declared.Fraction.{Fraction}
use Rattle.record.specs.declared.Position.{Position}
use Rattle.record.specs.declared.Record.{Record}
use Rattle.forms.specs.CarriedPart.{carried_part}
use Rattle.forms.specs.Fields.Fraction.{FractionKind, carried_fraction, hundredths, no_fraction, ten_millionths, thousandths}
use Rattle.forms.specs.Fields.Position.{PositionKind, carried_position, degrees, minutes, no_position}
use Rattle.forms.specs.Form.{Form, carries, write_by}
use Rattle.forms.specs.Forms.{FormKind, all_forms, block, carried_as, carried_form, form_kind_of, sized, unknown, write_as, write_form}
use Rattle.forms.specs.NoConversion.{NoConversion}
use Rattle.forms.specs.Required.{has_carried}
use Rattle.forms.proofs.Demand2.{demand_2}
use Rattle.forms.proofs.Required.{all_of}

-- the field itself, or nothing
abbrev Own : {A : Type 0} → A → A → A → Type 0
Own found field absent = (found ≡ field) ⊎ (found ≡ absent)

own_fraction : (k : FractionKind) (f : Option Fraction) → Own (carried_fraction k f) f None
unfolding carried_fraction
own_fraction no_fraction f = inr refl
own_fraction thousandths f = inl refl
own_fraction ten_millionths f = inl refl
own_fraction hundredths f = inl refl

own_position : (k : PositionKind) (p : Option Position) → Own (carried_position k p) p None
unfolding carried_position
own_position no_position p = inr refl
own_position degrees p = inl refl
own_position minutes p = inl refl

carried_own : (l : FormKind) (r : Record) → Own (carried_as l r).fraction r.fraction None × Own (carried_as l r).position r.position None
unfolding carried_part
carried_own (sized d) r = (own_fraction (carries d).fraction r.fraction, own_position (carries d).position r.position)
carried_own (block e) r = (inl refl, inl refl)
carried_own unknown r = (inl refl, inl refl)

-- found is what is carried
back : {A : Type 0} {found carried field absent : A} → found ≡ carried → Own carried field absent → Own found field absent
back e = ⊎_elim (λ h. inl (e ∙ h)) (λ h. inr (e ∙ h))

-- a record that lacks one of the carried fields
missing : (d : Form) (r : Record) (room : ℕ) → is_good r ≡ true → (has_carried (carries d) r ≡ true → ⊥) → number_in (write_by d r room) ≡ 8
unfolding write_by
missing d r room g n = either_way (has_carried (carries d) r) (λ h. absurd (n h)) (λ h. simp (g, h))

pub no_conversion : NoConversion
unfolding carried_form write_form write_as
no_conversion =
    record {
      same_fraction = λ n r out h. back (ap (λ q. q.fraction) (demand_2.written n r out h).1) (carried_own (form_kind_of all_forms n) r).0;
      same_position = λ n r out h. back (ap (λ q. q.position) (demand_2.written n r out h).1) (carried_own (form_kind_of all_forms n) r).1;
      wrong_fraction = λ n r room d e g h.
          ap (λ l. number_in (write_as l r room)) e
          ∙ missing d r room g (λ q. false≢true (sym h ∙ (all_of (carries d) r q).fraction));
      wrong_position = λ n r room d e g h.
          ap (λ l. number_in (write_as l r room)) e
          ∙ missing d r room g (λ q. false≢true (sym h ∙ (all_of (carries d) r q).position));
    }
