-- What is said of a form is said of its number; a number that is none of a list's has no form there.
use Rattle.std.specs.Prelude.{Result, Err}
use Rattle.record.specs.declared.refusal.Refusal.{Refusal}
use Rattle.cond.proofs.Kit.{[], ◌∷◌, ◌≡◌, List, ne_eqb, refl, ℕ}
use Rattle.record.specs.declared.Record.{Record}
use Rattle.record.specs.declared.refusal.Refusal.TheVariants as refusal
use Rattle.forms.specs.Form.{Form, Wrote}
use Rattle.forms.specs.Forms.{FormKind, Numbered, WroteAs, form_kind_of, left_as, sized, unknown, write_as}

-- none of a list's numbers, as the last arm of a match over them is told
abbrev pub NoneOf : Type 0 → List Numbered → ℕ → Type 0
NoneOf T [] n = T
NoneOf T (e ∷ es) n = NoneOf (T × (n ≡ e.number → ⊥)) es n

none_of : (T : Type 0) (es : List Numbered) (n : ℕ) → NoneOf T es n → T × (form_kind_of es n ≡ unknown)
unfolding form_kind_of
none_of T [] n h = (h, refl)
none_of T (e ∷ es) n h =
    let i = none_of (T × (n ≡ e.number → ⊥)) es n h in
    (i.0.0, rw (ne_eqb n e.number i.0.1) i.1)

pub no_form : (es : List Numbered) (n : ℕ) → NoneOf (Unit {0}) es n → form_kind_of es n ≡ unknown
no_form es n h = (none_of (Unit {0}) es n h).1

module _ {l : FormKind} {r : Record} {before : List ℕ} where
  pub wrote_sized : {d : Form} {w : Result ℕ Refusal} {after : List ℕ} → l ≡ sized d → Wrote d r w before after → WroteAs l r w before after
  unfolding write_as left_as
  wrote_sized e h = rw e record { answer = h.answer; left = h.left }

  pub wrote_nothing : l ≡ unknown → WroteAs l r (Err refusal.UnknownForm) before before
  unfolding write_as left_as
  wrote_nothing e = rw e record { answer = refl; left = refl }
