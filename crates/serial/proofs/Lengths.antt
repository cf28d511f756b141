-- A number is that of a serial form, which has from 16 bytes to as many as a listener holds, or of none, which has the length 0.
use Rattle.cond.proofs.Kit.{[], ◌&&◌, ◌<◌, ◌∙◌, ◌∷◌, ◌≡◌, ◌≤◌, arith, Bool, eqb, eqb-true, false, false≢true, leb, leb-true, List, lt-ltb, ltb, ltb-true, refl, sym, true, ℕ}
use Rattle.cond.proofs.Tests.{both, either_way}
use Rattle.forms.specs.Form.{Form}
use Rattle.forms.specs.Forms.{FormKind, Numbered, block, is_known, is_serial, form_kind_of, serial_forms, sized, unknown}
use Rattle.forms.specs.Valid.{length_of}
use Rattle.forms.proofs.Instances.{all_pass, variant_passes}
use Rattle.serial.specs.Shape.{longest}

-- the form has from 16 bytes to as many as a listener holds
abbrev is_bounded : FormKind → Bool
is_bounded (sized d) = leb 16 d.size && leb d.size longest
is_bounded (block x) = false
is_bounded unknown = true

all_bounded : all_pass is_bounded serial_forms ≡ true
unfolding all_pass
all_bounded = refl

-- a number is that of a form of such a length, or of none
pub data Serial (n : ℕ) : Type 0 where
  known : (d : Form) → form_kind_of serial_forms n ≡ sized d → 16 ≤ d.size → d.size ≤ longest → Serial n
  other : form_kind_of serial_forms n ≡ unknown → Serial n

pub serial : (n : ℕ) → Serial n
serial n = go (form_kind_of serial_forms n) refl (variant_passes is_bounded serial_forms n all_bounded)
  where
    go : (l : FormKind) → form_kind_of serial_forms n ≡ l → is_bounded l ≡ true → Serial n
    go (sized d) e h =
        let b = both (leb 16 d.size) (leb d.size longest) h in
        known d e (leb-true 16 d.size b.0) (leb-true d.size longest b.1)
    go (block x) e h = absurd (false≢true h)
    go unknown e h = other e

-- the lengths, and the numbers that have one

module _ (n : ℕ) where
  pub length_most : length_of n ≤ longest
  unfolding length_of
  length_most = elim (serial n) [ known d e l m ↦ rw e m | other e ↦ rw e (omega arith) ]

  pub length_least : (length_of n ≡ 0 → ⊥) → 16 ≤ length_of n
  unfolding length_of
  length_least h = elim (serial n) [ known d e l m ↦ rw e l | other e ↦ absurd (h (rw e refl)) ]

  is_serial_lem : is_serial n ≡ ltb 0 (length_of n)
  unfolding is_serial length_of
  is_serial_lem = elim (serial n) [ known d e l m ↦ rw e (sym (lt-ltb 0 d.size (omega arith))) | other e ↦ rw e ]

  pub not_serial : length_of n ≡ 0 → is_serial n ≡ false
  not_serial e = is_serial_lem ∙ rw e

  pub some_serial : (length_of n ≡ 0 → ⊥) → is_serial n ≡ true
  some_serial h = is_serial_lem ∙ lt-ltb 0 (length_of n) (omega arith)

  pub serial_long : is_serial n ≡ true → 0 < length_of n
  serial_long h = ltb-true 0 (length_of n) (sym is_serial_lem ∙ h)

-- a form's number fits four bits

unfoldable all_low : List Numbered → Bool
all_low [] = true
all_low (e ∷ es) = ltb e.number 16 && all_low es

low : (es : List Numbered) (n : ℕ) → all_low es ≡ true → is_known (form_kind_of es n) ≡ true → n < 16
unfolding all_low form_kind_of
low [] n h k = absurd (false≢true k)
low (e ∷ es) n h k =
    let a = both (ltb e.number 16) (all_low es) h in
    either_way (eqb n e.number) (λ q. rw (eqb-true n e.number q) (ltb-true e.number 16 a.0)) (λ q. low es n a.1 (rw q at k))

pub serial_low : (n : ℕ) → is_serial n ≡ true → n < 16
unfolding is_serial all_low
serial_low n h = low serial_forms n refl h
