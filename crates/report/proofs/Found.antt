-- What a search found is the first record of those still to come, and where it found nothing there are no more.
use Rattle.search.specs.declared.Found as search
use Rattle.std.specs.Prelude.{Result, Ok, Err}
use Rattle.cond.proofs.Kit.{[], ◌+◌, ◌<◌, ◌∙◌, ◌∷◌, ◌≡◌, ap, arith, List, refl, sym, ℕ}
use Rattle.record.specs.declared.Record.{Record}
use Rattle.record.specs.declared.refusal.Refusal.{Refusal}
use Rattle.forms.specs.Valid.{length_of, valid_of}
use Rattle.stream.specs.Search.{FirstAt, Found, first_from, found, go_on, not_found, search_from}
use Rattle.stream.proofs.Repeated.{search_goes_on}
use Rattle.stream.proofs.Search.{found_first}
use Rattle.serial.proofs.Lengths.{some_serial}
use Rattle.serial.proofs.Strings.{serial_strings}
use Rattle.search.specs.Answer.{finding_place, finding_record, search_of, searched}

searched_found : (f : Found Record) (p : ℕ) (r : Record) → searched f ≡ Ok (record { at = p; told = r }) → f ≡ found p r
searched_found (found q x) p r h =
    let a : q ≡ p = ap finding_place h in
    let b : x ≡ r = ap finding_record h in
    cc
searched_found not_found p r h = absurd (let z : ◌≡◌ {A = ℕ} 0 1 = cc in omega arith)

searched_none : (f : Found Record) (x : Refusal) → searched f ≡ Err x → f ≡ not_found
searched_none (found q r) x h = absurd (let z : ◌≡◌ {A = ℕ} 0 1 = cc in omega arith)
searched_none not_found x h = refl

module _ (form : ℕ) (known : length_of form ≡ 0 → ⊥) (s : List ℕ) (start : ℕ) (a : Result search.Found Refusal) (answer : a ≡ search_of form s start) where
  -- the records from a place on
  abbrev from : ℕ → List Record
  from p = search_from (length_of form) (valid_of form) s p

  some_byte : 0 < length_of form
  some_byte = omega (arith, known)

  goes_on : from start ≡ go_on (first_from (length_of form) (valid_of form) s start) (λ p. from (p + length_of form))
  goes_on = search_goes_on (length_of form) (valid_of form) (serial_strings form some_byte) s start

  is_searched : searched (first_from (length_of form) (valid_of form) s start) ≡ a
  unfolding search_of
  is_searched = sym (answer ∙ rw (some_serial form known))

  module _ (p : ℕ) (r : Record) (e : a ≡ Ok (record { at = p; told = r })) where
    first : first_from (length_of form) (valid_of form) s start ≡ found p r
    first = searched_found _ p r (is_searched ∙ e)

    pub first_at : FirstAt (length_of form) (valid_of form) s start p r
    first_at = found_first (length_of form) (valid_of form) s start p r first

    pub one_more : from start ≡ r ∷ from (p + length_of form)
    one_more = goes_on ∙ rw first

  pub no_more : (x : Refusal) → a ≡ Err x → from start ≡ []
  no_more x e =
      let none_there : first_from (length_of form) (valid_of form) s start ≡ not_found = searched_none _ x (is_searched ∙ e) in
      goes_on ∙ rw none_there
