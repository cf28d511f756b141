-- Demand 2 for every sound form, told by the reader's and the writer's answers.
use Rattle.std.specs.Prelude.{Result, Ok, Err}
use Rattle.cond.proofs.Kit.{◌≡◌, ◌≤◌, arith, Bool, false, le-leb, leb, length, List, refl, true, ℕ}
use Rattle.cond.specs.Pick.{pick}
use Rattle.record.specs.Record.{is_good}
use Rattle.record.specs.declared.Record.{Record}
use Rattle.record.specs.declared.refusal.Refusal.{Refusal}
use Rattle.forms.specs.CarriedPart.{carried_part}
use Rattle.forms.specs.Form.{Form, bytes_by, carries, is_expressible, read_by, write_by}
use Rattle.forms.specs.Required.{has_carried}
use Rattle.forms.specs.Encode.{encode}
use Rattle.forms.proofs.ReadWrite.{Rewritten, read_write}
use Rattle.forms.proofs.Sound.{is_sound_form, sound_form}
use Rattle.forms.proofs.WriteRead.{write_length, write_read}

-- what holds between the reader and the writer of a form
pub record Trips (d : Form) : Type 0 where
  -- the writer makes as many bytes as the form has
  pub sized : (r : Record) (n k : ℕ) → write_by d r n ≡ Ok k → length (bytes_by d (encode r)) ≡ d.size
  pub written_read :
      (r : Record) (n k : ℕ) → write_by d r n ≡ Ok k → read_by d (bytes_by d (encode r)) ≡ Ok (carried_part (carries d) r)
  -- an accepted input gives a record that the writer takes
  pub taken : (s : List ℕ) (r : Record) (n : ℕ) → d.size ≤ n → read_by d s ≡ Ok r → write_by d r n ≡ Ok d.size
  pub read_written : (s : List ℕ) (r : Record) → read_by d s ≡ Ok r → bytes_by d (encode r) ≡ s
  -- it has all that the form carries, and nothing else
  pub complete : (s : List ℕ) (r : Record) → read_by d s ≡ Ok r → has_carried (carries d) r ≡ true
  pub nothing_else : (s : List ℕ) (r : Record) → read_by d s ≡ Ok r → carried_part (carries d) r ≡ r

pub refused_written : (x : Refusal) (k : ℕ) → Err x ≡ Ok k → ⊥
refused_written x k h = let z : ◌≡◌ {A = ℕ} 0 1 = cc in omega arith

-- a test whose refusal was not given has passed
passed : (b : Bool) (a : Result ℕ Refusal) (x : Refusal) (k : ℕ) → pick b a (Err x) ≡ Ok k → (b ≡ true) × (a ≡ Ok k)
passed true a x k h = (refl, h)
passed false a x k h = absurd (refused_written x k h)

written_size : (n k : ℕ) → ◌≡◌ {A = Result ℕ Refusal} (Ok n) (Ok k) → n ≡ k
written_size n k h = cc

-- what a record passed that was written
pub record Taken (d : Form) (r : Record) (k : ℕ) : Type 0 where
  pub good : is_good r ≡ true
  pub complete : has_carried (carries d) r ≡ true
  pub spellable : is_expressible d.layout (encode r) ≡ true
  pub size : d.size ≡ k

pub taken_by : (d : Form) (r : Record) (n k : ℕ) → write_by d r n ≡ Ok k → Taken d r k
unfolding write_by
taken_by d r n k h =
    let a = passed (is_good r) _ _ k h in
    let b = passed (has_carried (carries d) r) _ _ k a.1 in
    let c = passed (is_expressible d.layout (encode r)) _ _ k b.1 in
    let e = passed (leb d.size n) _ _ k c.1 in
    record { good = a.0; complete = b.0; spellable = c.0; size = written_size d.size k e.1 }

takes : (d : Form) (s : List ℕ) (r : Record) (n : ℕ) → d.size ≤ n → Rewritten d s r → write_by d r n ≡ Ok d.size
unfolding write_by
takes d s r n l c = simp (c.good, c.complete, c.spellable, le-leb d.size n l)

pub trips : (d : Form) → is_sound_form d ≡ true → Trips d
trips d t =
    let o = sound_form d t in
    record {
      sized = λ r n k h. let c = taken_by d r n k h in write_length d o r c.good c.spellable;
      written_read = λ r n k h. let c = taken_by d r n k h in write_read d o r c.good c.spellable c.complete;
      taken = λ s r n l h. takes d s r n l (read_write d o s r h);
      read_written = λ s r h. (read_write d o s r h).same_bytes_lem;
      complete = λ s r h. (read_write d o s r h).complete;
      nothing_else = λ s r h. (read_write d o s r h).nothing_else;
    }
