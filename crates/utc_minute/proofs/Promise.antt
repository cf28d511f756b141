-- A number is told by an offset alone, and it is a remainder by 1,440. A RACAL string's record has no offset: by demand 2 a form's records
-- have nothing but what the form carries.
use Rattle.std.specs.Prelude.{Option, None, Some, Result, Ok, Err, ℤ}
use Rattle.record.specs.declared.Record.{Record}
use Rattle.record.specs.declared.refusal.Refusal.{Refusal}
use Rattle.cond.proofs.Kit.{◌*◌, ◌+◌, ◌<◌, ◌≡◌, ap, arith, List, refl, sym, ℕ}
use Rattle.record.specs.Answers.{number_in, read_record}
use Rattle.forms.specs.CarriedPart.{carried_part}
use Rattle.forms.specs.Carries.{carries_of}
use Rattle.forms.specs.Fields.Offset.{carried_offset}
use Rattle.forms.specs.Forms.{carried_form, form_kind_of, read_form}
use Rattle.forms.specs.Places.{has}
use Rattle.forms.proofs.Demand2.{demand_2}
use Rattle.utc_minute.specs.Minute.{minute_by, minute_of, utc_minute}
use Rattle.utc_minute.specs.Promise.{Promise}

by_offset : (local : ℕ) (o : Option ℤ) (n : ℕ) → minute_by local o ≡ Some n → (o ≡ None → ⊥) × (n < 1440)
unfolding utc_minute
by_offset local None n h = absurd (let z : ◌≡◌ {A = ℕ} 0 1 = cc in omega arith)
by_offset local (Some z) n h =
    let e : utc_minute local z ≡ n = cc in
    (λ o. let z : ◌≡◌ {A = ℕ} 0 1 = cc in omega arith, omega (arith, e))

-- the minute of an answer
abbrev told_in : Result (Option ℕ) Refusal → Option ℕ
told_in (Ok m) = m
told_in (Err why) = None

-- a string that tells a number is accepted, and its offset was sent
sent : (a : Result Record Refusal) (n : ℕ) → minute_of a ≡ Ok (Some n) → (number_in a ≡ 0) × ((read_record a).offset ≡ None → ⊥) × (n < 1440)
sent (Ok r) n h =
    let o = by_offset (r.hour * 60 + r.minute) r.offset n (ap told_in h) in
    (refl, o.0, o.1)
sent (Err why) n h = absurd (let z : ◌≡◌ {A = ℕ} 0 1 = cc in omega arith)

racal_absent : (s : List ℕ) → number_in (read_form 5 s) ≡ 0 → (read_record (read_form 5 s)).offset ≡ None
unfolding carried_form form_kind_of carried_part carries_of has carried_offset
racal_absent s h = sym (ap (λ r. r.offset) (demand_2.alone 5 s h))

pub promise : Promise
promise =
    record {
      in_day = λ form s n h. (sent (read_form form s) n h).2;
      never_made_up = λ form s n e h. (sent (read_form form s) n h).1 e;
      racal_never = λ s n h. let t = sent (read_form 5 s) n h in t.1 (racal_absent s t.0);
    }
