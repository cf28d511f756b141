-- What an accepted string passed.
use Rattle.std.specs.Prelude.{Result, Ok, Err}
use Rattle.cond.proofs.Kit.{◌≡◌, arith, Bool, eq-eqb, eqb, eqb-true, false, length, List, refl, true, ℕ}
use Rattle.cond.specs.Pick.{pick}
use Rattle.record.specs.declared.Record.{Record}
use Rattle.record.specs.declared.refusal.Refusal.{Refusal}
use Rattle.forms.specs.Checksum.{checksums_hold}
use Rattle.forms.specs.Form.{Form, carries, validated, ranges, read_by, read_layout, consistent, values_by}
use Rattle.forms.specs.Places.{shape}
use Rattle.forms.specs.Decode.{decode}

pub refused_read : (x : Refusal) (r : Record) → Err x ≡ Ok r → ⊥
refused_read x r h = let z : ◌≡◌ {A = ℕ} 0 1 = cc in omega arith

read_same : (r t : Record) → ◌≡◌ {A = Result Record Refusal} (Ok r) (Ok t) → r ≡ t
read_same r t h = cc

-- a test whose refusal was not given has passed
pub passed : (b : Bool) (a : Result Record Refusal) (x : Refusal) (r : Record) → pick b a (Err x) ≡ Ok r → (b ≡ true) × (a ≡ Ok r)
passed true a x r h = (refl, h)
passed false a x r h = absurd (refused_read x r h)

pub record Accepted (d : Form) (s : List ℕ) (r : Record) : Type 0 where
  pub long : length s ≡ d.size
  pub shaped : shape d.layout 0 s ≡ true
  pub checked : checksums_hold d.checksums s (values_by d s) ≡ true
  pub ranged : ranges (carries d) (values_by d s) ≡ true
  pub is_consistent : consistent (carries d) (values_by d s) ≡ true
  pub spelled : decode (carries d) (values_by d s) ≡ r

pub accepted : (d : Form) (s : List ℕ) (r : Record) → read_by d s ≡ Ok r → Accepted d s r
unfolding read_by read_layout validated
accepted d s r h =
    let a = passed (eqb (length s) d.size) _ _ r h in
    let b = passed (shape d.layout 0 s) _ _ r a.1 in
    let c = passed (checksums_hold d.checksums s (values_by d s)) _ _ r b.1 in
    let e = passed (ranges (carries d) (values_by d s)) _ _ r c.1 in
    let f = passed (consistent (carries d) (values_by d s)) _ _ r e.1 in
    record {
      long = eqb-true _ _ a.0;
      shaped = b.0;
      checked = c.0;
      ranged = e.0;
      is_consistent = f.0;
      spelled = read_same _ _ f.1;
    }

-- a string of the right length, shape and sum is validated by its values
pub read_validated : (d : Form) (s : List ℕ) → length s ≡ d.size → shape d.layout 0 s ≡ true → checksums_hold d.checksums s (values_by d s) ≡ true
    → read_by d s ≡ validated (carries d) (values_by d s)
unfolding read_by read_layout
read_validated d s l h q = simp (eq-eqb (length s) d.size l, h, q)
