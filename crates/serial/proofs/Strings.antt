-- The valid strings of a serial form are as long as the form, start with its start byte and have it nowhere else, and end with its last
-- byte. So two of them never overlap.
use Rattle.std.specs.Prelude.{Option, None, Some, Result, Ok, Err}
use Rattle.record.specs.declared.refusal.Refusal.{Refusal}
use Rattle.cond.proofs.Kit.{◌<◌, ◌∙◌, ◌≡◌, add-zero, ap, arith, get_or, length, List, refl, sym, true, ℕ}
use Rattle.record.specs.declared.Record.{Record}
use Rattle.record.specs.Record.{is_good}
use Rattle.forms.specs.Form.{read_by}
use Rattle.forms.specs.Forms.{read_as}
use Rattle.forms.specs.Start.{OnlyAtHead}
use Rattle.forms.specs.Valid.{end_of, last_byte, length_of, record_in, start_of, valid_of}
use Rattle.forms.proofs.Accepted.{accepted}
use Rattle.forms.proofs.Instances.{serial_end, serial_sound, serial_start}
use Rattle.forms.proofs.Trips.{taken_by, trips}
use Rattle.stream.specs.Strings.{Strings}
use Rattle.serial.proofs.Lengths.{Serial, known, other, serial}

read_as_lem : (a : Result Record Refusal) (r : Record) → record_in a ≡ Some r → a ≡ Ok r
read_as_lem (Ok q) r h = let e : q ≡ r = cc in ap Ok e
read_as_lem (Err x) r h = absurd (let z : ◌≡◌ {A = ℕ} 0 1 = cc in omega arith)

-- what is known of a valid string
pub record Valid (n : ℕ) (s : List ℕ) : Type 0 where
  pub some_byte : 0 < length_of n
  pub long : length s ≡ length_of n
  pub starts : OnlyAtHead (start_of n) s
  pub ends : last_byte s ≡ end_of n

pub valid_string : (n : ℕ) (s : List ℕ) (r : Record) → valid_of n s ≡ Some r → Valid n s
unfolding valid_of read_as length_of start_of end_of
valid_string n s r h = go (serial n)
  where
    go : Serial n → Valid n s
    go (known d e l m) =
        let v = read_as_lem (read_by d s) r (rw e at h) in
        record {
          some_byte = rw e (omega arith);
          long = rw e (accepted d s r v).long;
          starts = rw e (serial_start n d e s r v);
          ends = rw e (serial_end n d e s r v);
        }
    go (other e) = absurd (let z : None ≡ Some r = rw e at h in let y : ◌≡◌ {A = ℕ} 0 1 = cc in omega arith)

-- its record is a good one: it could be written again
pub valid_good : (n : ℕ) (s : List ℕ) (r : Record) → valid_of n s ≡ Some r → is_good r ≡ true
unfolding valid_of read_as
valid_good n s r h = go (serial n)
  where
    go : Serial n → is_good r ≡ true
    go (known d e l m) =
        let v = read_as_lem (read_by d s) r (rw e at h) in
        (taken_by d r d.size d.size ((trips d (serial_sound n d e)).taken s r d.size (omega arith) v)).good
    go (other e) = absurd (let z : None ≡ Some r = rw e at h in let y : ◌≡◌ {A = ℕ} 0 1 = cc in omega arith)

-- what is no valid string
none_valid : (n : ℕ) (s : List ℕ) → (Valid n s → ⊥) → valid_of n s ≡ None
none_valid n s h = go (valid_of n s) refl
  where
    go : (o : Option Record) → valid_of n s ≡ o → valid_of n s ≡ None
    go None e = e
    go (Some r) e = absurd (h (valid_string n s r e))

module _ (n : ℕ) (s : List ℕ) where
  pub wrong_start : (get_or s 0 0 ≡ start_of n → ⊥) → valid_of n s ≡ None
  wrong_start h = none_valid n s (λ v. h v.starts.head)

  pub wrong_end : (last_byte s ≡ end_of n → ⊥) → valid_of n s ≡ None
  wrong_end h = none_valid n s (λ v. h v.ends)

-- "what the serial forms have in common": where one string begins inside another, it would have the start byte behind its head
pub serial_strings : (n : ℕ) → 0 < length_of n → Strings (length_of n) (valid_of n)
serial_strings n h =
    record {
      some_byte = h;
      sized = λ u r e. (valid_string n u r e).long;
      apart = λ u v r q j l m e f same.
          let a = valid_string n u r e in
          let b = valid_string n v q f in
          a.starts.nowhere_else j l (let k = a.long in omega arith)
          (ap (λ (x : ℕ). get_or u x 0) (sym (add-zero j)) ∙ same 0 (omega arith) ∙ b.starts.head);
    }
