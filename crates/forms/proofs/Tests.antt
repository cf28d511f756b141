-- The reader's first tests, over any form, in the order 2, 3, 6; `read-validated` of Accepted has the answer after them.
use Rattle.std.specs.Prelude.{Result, Err}
use Rattle.record.specs.declared.Record.{Record}
use Rattle.record.specs.declared.refusal.Refusal.{Refusal}
use Rattle.cond.proofs.Kit.{[], ◌∷◌, ◌≡◌, Bool, eq-eqb, false, false≢true, length, List, ne_eqb, refl, sym, true, ℕ}
use Rattle.cond.specs.Pick.{pick}
use Rattle.record.specs.Answers.{number_in}
use Rattle.record.specs.declared.refusal.Refusal.TheVariants as refusal
use Rattle.forms.specs.All.{is_one_of}
use Rattle.forms.specs.Checksum.{checksums_hold}
use Rattle.forms.specs.Form.{Form, read_by, read_layout, values_by}
use Rattle.forms.specs.Places.{shape}
use Rattle.forms.specs.Slots.{Values}

-- a form without a sum asks none
pub no_checksum : (s : List ℕ) (v : Values) → checksums_hold [] s v ≡ true
unfolding checksums_hold
no_checksum s v = refl

module _ (d : Form) (s : List ℕ) where
  pub wrong_length : (length s ≡ d.size → ⊥) → read_by d s ≡ Err refusal.WrongLength
  unfolding read_by
  wrong_length n = simp (ne_eqb (length s) d.size n)

  module _ (l : length s ≡ d.size) where
    pub wrong_byte : shape d.layout 0 s ≡ false → read_by d s ≡ Err refusal.WrongByte
    unfolding read_by read_layout
    wrong_byte h = simp (eq-eqb (length s) d.size l, h)

    module _ (h : shape d.layout 0 s ≡ true) where
      pub wrong_checksum : checksums_hold d.checksums s (values_by d s) ≡ false → read_by d s ≡ Err refusal.WrongChecksum
      unfolding read_by read_layout
      wrong_checksum q = simp (eq-eqb (length s) d.size l, h, q)

-- what is answered where none of these tests refuses
pub after : (a b c : Bool) (x : Result Record Refusal) → (a ≡ true → number_in x ≡ 4)
    → is_one_of (2 ∷ 3 ∷ 6 ∷ []) (number_in (pick a (pick b (pick c x (Err refusal.WrongChecksum)) (Err refusal.WrongByte)) (Err refusal.WrongLength))) ≡ false
    → number_in (pick a (pick b (pick c x (Err refusal.WrongChecksum)) (Err refusal.WrongByte)) (Err refusal.WrongLength)) ≡ 4
after true true true x h n = h refl
after true true false x h n = absurd (false≢true (sym n))
after true false c x h n = absurd (false≢true (sym n))
after false b c x h n = absurd (false≢true (sym n))
