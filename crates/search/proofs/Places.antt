-- What a search says from place to place: nothing valid was found before p, so the answer is the one from p on.
use Rattle.std.specs.Prelude.{None, Some, Result, Ok, Err}
use Rattle.cond.proofs.Kit.{◌+◌, ◌-◌, ◌<◌, ◌∙◌, ◌≡◌, ◌≤◌, add-zero, ap, arith, drop, get_or, get_or-drop, get_or-take, length, length-drop, length-take, List, sym, ℕ}
use Rattle.record.specs.declared.Record.{Record}
use Rattle.record.specs.declared.refusal.Refusal.{Refusal}
use Rattle.record.specs.declared.refusal.Refusal.TheVariants as refusal
use Rattle.forms.specs.Valid.{end_of, length_of, record_in, start_of, valid_of}
use Rattle.stream.specs.Search.{first_from}
use Rattle.stream.specs.Window.{window}
use Rattle.stream.proofs.Search.{next_place, no_place}
use Rattle.serial.proofs.Lengths.{not_serial, some_serial}
use Rattle.serial.proofs.Strings.{wrong_end, wrong_start}
use Rattle.search.specs.Answer.{search_of, searched}

module _ (form n : ℕ) (s : List ℕ) (p : ℕ) (inside : p + n ≤ length s) (some_byte : 0 < n) where
  at_byte : (i : ℕ) → i < n → get_or (window n s p) i 0 ≡ get_or s (p + i) 0
  at_byte i l = get_or-take n (drop p s) i 0 l ∙ get_or-drop p s i 0

  pub other_start : (get_or s p 0 ≡ start_of form → ⊥) → None ≡ valid_of form (window n s p)
  other_start h =
      sym (wrong_start form (window n s p) (λ e. h (ap (λ (x : ℕ). get_or s x 0) (sym (add-zero p)) ∙ sym (at_byte 0 some_byte) ∙ e)))

  pub other_end : (get_or s (p + n - 1) 0 ≡ end_of form → ⊥) → None ≡ valid_of form (window n s p)
  other_end h =
      let l : length (window n s p) ≡ n = rw (length-take, length-drop) (omega arith) in
      let e : p + (n - 1) ≡ p + n - 1 = omega arith in
      sym (wrong_end form (window n s p) (λ q. h (ap (λ (x : ℕ). get_or s x 0) (sym e) ∙ sym (at_byte (n - 1) (omega arith)) ∙ (rw l at q))))

pub no_form : (form : ℕ) (s : List ℕ) (start : ℕ) → length_of form ≡ 0 → Err refusal.UnknownForm ≡ search_of form s start
unfolding search_of
no_form form s start e = rw (not_serial form e)

-- nothing is found from the start to place p
pub record Reached (form n : ℕ) (s : List ℕ) (start p : ℕ) : Type 0 where
  pub is : n ≡ length_of form
  pub some_byte : n ≡ 0 → ⊥
  pub same : first_from n (valid_of form) s start ≡ first_from n (valid_of form) s p

module _ {form n : ℕ} {s : List ℕ} {start p : ℕ} (i : Reached form n s start p) where
  from_here : searched (first_from n (valid_of form) s p) ≡ search_of form s start
  unfolding search_of
  from_here = rw (some_serial form (λ e. i.some_byte (i.is ∙ e)), ← i.is) (ap searched (sym i.same))

  pub no_more : length s < p + n → Err refusal.NotFound ≡ search_of form s start
  no_more l = ap searched (sym (no_place n (valid_of form) s p l)) ∙ from_here

  module _ (inside : p + n ≤ length s) {a : Result Record Refusal} (is_read : record_in a ≡ valid_of form (window n s p)) where
    pub here : {r : Record} → a ≡ Ok r → Ok (record { at = p; told = r }) ≡ search_of form s start
    here {r} e =
        let v : valid_of form (window n s p) ≡ Some r = sym is_read ∙ ap record_in e in
        rw (next_place n (valid_of form) s p inside, v) at from_here

    pub go_on_lem : {x : Refusal} → a ≡ Err x → Reached form n s start (p + 1)
    go_on_lem e =
        let v : valid_of form (window n s p) ≡ None = sym is_read ∙ ap record_in e in
        record { is = i.is; some_byte = i.some_byte; same = i.same ∙ rw (next_place n (valid_of form) s p inside, v) }
