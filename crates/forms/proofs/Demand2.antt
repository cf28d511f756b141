-- Demand 2 for all forms, and for numbers of none: `Keeps` of each, told by numbers and values.
use Rattle.std.specs.Prelude.{Some, Result, Ok}
use Rattle.record.specs.declared.refusal.Refusal.{Refusal}
use Rattle.cond.proofs.Kit.{◌<◌, ◌∙◌, ◌≡◌, ap, arith, eqb, eqb-true, get_or, length, List, set, subst, sym, take, true, ℕ, ⊎_elim}
use Rattle.cond.proofs.Tests.{either}
use Rattle.calendar.specs.Calendar.{day_of_year}
use Rattle.record.specs.Answers.{number_in, read_record, written_length}
use Rattle.record.specs.declared.Date.TheVariants as DateIs
use Rattle.record.specs.declared.Record.{Record}
use Rattle.record.proofs.Answers.{accepted_read, accepted_write}
use Rattle.forms.specs.Block.{first_edition}
use Rattle.forms.specs.CarriedPart.{carried_part}
use Rattle.forms.specs.Carries.{carries_of}
use Rattle.forms.specs.Demand2.{Accepts, Demand2, is_summed}
use Rattle.forms.specs.Fields.Date.{carried_date}
use Rattle.forms.specs.Form.{Form, read_by}
use Rattle.forms.specs.Forms.{all_forms, carried_form, form_kind_of, has_carried_form, left_form, read_as, read_form, write_form}
use Rattle.forms.specs.Places.{has}
use Rattle.forms.specs.Serial.{rmc, spa}
use Rattle.forms.proofs.Accepted.{accepted}
use Rattle.forms.proofs.Block.{block_keeps}
use Rattle.forms.proofs.FirstEdition.{first_sound}
use Rattle.forms.proofs.Instances.{form_keeps, rmc_replaced, spa_replaced}
use Rattle.forms.proofs.Keeps.{Keeps}
use Rattle.forms.proofs.OneByte.{OneReplaced}

keeps : (n : ℕ) → Keeps (form_kind_of all_forms n)
keeps = form_keeps (block_keeps first_edition first_sound)

-- a string that is accepted is not accepted with a byte replaced

abbrev Refused : (List ℕ → Result Record Refusal) → Type 0
Refused read =
    (s : List ℕ) (i b : ℕ) → number_in (read s) ≡ 0 → i < length s → (b ≡ get_or s i 0 → ⊥) → number_in (read (set s i b)) ≡ 0 → ⊥

refused : (d : Form) → OneReplaced d → Refused (read_by d)
refused d o s i b h l e k =
    let p = accepted_read (read_by d s) h in
    let long = (accepted d s _ p).long in
    e (o s i b _ _ p (omega arith) (accepted_read (read_by d (set s i b)) k))

summed : (n : ℕ) → is_summed n ≡ true → Refused (read_form n)
unfolding read_form form_kind_of read_as
summed n h =
    ⊎_elim (λ e. subst (λ m. Refused (read_form m)) (sym (eqb-true n 4 e)) (refused spa spa_replaced))
    (λ e. subst (λ m. Refused (read_form m)) (sym (eqb-true n 12 e)) (refused rmc rmc_replaced)) (either (eqb n 4) (eqb n 12) h)

-- a record that was written is read back as what the form carries of it
written : (n : ℕ) (r : Record) (out : List ℕ) → number_in (write_form n r (length out)) ≡ 0
    → Accepts (read_form n (take (written_length (write_form n r (length out))) (left_form n r out))) (carried_form n r)
unfolding read_form write_form left_form carried_form
written n r out h =
    let a = (keeps n).written r out (written_length (write_form n r (length out))) (accepted_write (write_form n r (length out)) h) in
    (ap number_in a, ap read_record a)

-- form 6 carries the day of year of a full date
sysplex_date : (r : Record) (y m d : ℕ) → r.date ≡ Some (DateIs.Full y m d) → (carried_form 6 r).date ≡ Some (DateIs.DayOfYear (day_of_year y m d))
unfolding carried_form form_kind_of carried_part carries_of has carried_date
sysplex_date r y m d e = rw e

pub demand_2 : Demand2
unfolding read_form write_form left_form carried_form has_carried_form
demand_2 =
    record {
      yields = λ n s h. (keeps n).complete s (read_record (read_form n s)) (accepted_read (read_form n s) h);
      alone = λ n s h. (keeps n).alone s (read_record (read_form n s)) (accepted_read (read_form n s) h);
      written = written;
      day_of_year_lem = λ r out y m d e h. ap (λ q. q.date) (written 6 r out h).1 ∙ sysplex_date r y m d e;
      behind = λ n r out h.
          (keeps n).behind r out (written_length (write_form n r (length out))) (accepted_write (write_form n r (length out)) h);
      again = λ n s r out h l.
          let a = (keeps n).again s r out (accepted_read (read_form n s) h.0 ∙ ap Ok h.1) l in
          (ap number_in a.0, ap written_length a.0, a.1);
      replaced = λ n s i b t. summed n t s i b;
    }
