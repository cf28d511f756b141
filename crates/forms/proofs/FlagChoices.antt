-- The yes or no fields and the variants of their lines in the block.
use Rattle.std.specs.Prelude.{Option, None, Some, Bool, false}
use Rattle.cond.proofs.Kit.{[], ◌+◌, ◌<◌, ◌≡◌, ◌≤◌, ap, arith, eqb, eqb-true, false≢true, get_or, length, ltb, refl, String, suc, sym, true, zero, ℕ}
use Rattle.cond.specs.Pick.{one_if}
use Rattle.cond.proofs.Tests.{both}
use Rattle.spelling.specs.Bytes.{text}
use Rattle.record.specs.Record.{is_yes}
use Rattle.forms.specs.Block.{flag_line}
use Rattle.forms.specs.Fields.Flag.{flag_choice, has_flag, carried_flag}
use Rattle.forms.specs.Places.{has_words, has, layout_width}
use Rattle.forms.specs.Slots.{Slot, Values}
use Rattle.forms.proofs.Choices.{is_present}
use Rattle.forms.proofs.Slots.{slot_self}

-- the yes or no fields

pub flag_among : (x : Option Bool) → ltb (flag_choice x) 3 ≡ true
flag_among None = refl
flag_among (Some false) = refl
flag_among (Some true) = refl

pub flag_taken : (x : Option Bool) → (has_flag (is_present (flag_choice x)) x ≡ true) × (carried_flag (is_present (flag_choice x)) x ≡ x)
unfolding carried_flag
flag_taken None = (refl, refl)
flag_taken (Some false) = (refl, refl)
flag_taken (Some true) = (refl, refl)

module _ (key : String) (f : Slot) where
  pub flag_has : (c : ℕ) → c < 3 → has (get_or (flag_line key f) c []) f ≡ is_present c
  unfolding has
  flag_has zero b = refl
  flag_has (suc zero) b = simp (slot_self f)
  flag_has (suc (suc zero)) b = simp (slot_self f)
  flag_has (suc (suc (suc c))) b = absurd (omega arith)

  pub flag_choice_lem : (c : ℕ) (x : Option Bool) (v : Values) → c < 3 → has_flag (is_present c) x ≡ true → carried_flag (is_present c) x ≡ x
      → has_words (get_or (flag_line key f) c []) v ≡ true → v f ≡ one_if (is_yes x) → flag_choice x ≡ c
  unfolding carried_flag has_words
  flag_choice_lem zero x v b h k w e = sym (ap flag_choice k)
  flag_choice_lem (suc zero) None v b h k w e = absurd (false≢true h)
  flag_choice_lem (suc zero) (Some false) v b h k w e = refl
  flag_choice_lem (suc zero) (Some true) v b h k w e = absurd (omega (arith, eqb-true (v f) 0 (both (eqb (v f) 0) true w).0))
  flag_choice_lem (suc (suc zero)) None v b h k w e = absurd (false≢true h)
  flag_choice_lem (suc (suc zero)) (Some false) v b h k w e = absurd (omega (arith, eqb-true (v f) 1 (both (eqb (v f) 1) true w).0))
  flag_choice_lem (suc (suc zero)) (Some true) v b h k w e = refl
  flag_choice_lem (suc (suc (suc c))) x v b h k w e = absurd (omega arith)

  pub flag_has_words : (x : Option Bool) (v : Values) → v f ≡ one_if (is_yes x) → has_words (get_or (flag_line key f) (flag_choice x) []) v ≡ true
  unfolding has_words
  flag_has_words None v e = refl
  flag_has_words (Some false) v e = simp e
  flag_has_words (Some true) v e = simp e

  -- one byte more for yes
  pub flag_width : (x : Option Bool)
      → (length (text key) + 2 ≤ layout_width (get_or (flag_line key f) (flag_choice x) []))
      × (layout_width (get_or (flag_line key f) (flag_choice x) []) ≤ length (text key) + 3 + one_if (is_yes x))
      × (one_if (is_yes x) ≤ 1)
  unfolding layout_width
  flag_width None = (omega arith, omega arith, omega arith)
  flag_width (Some false) = (omega arith, omega arith, omega arith)
  flag_width (Some true) = (omega arith, omega arith, omega arith)
