-- Demand 1: "Every call ends with one answer ..": of a search, beside the readers and writers. What a listener answers is in demand 3.
use Rattle.std.specs.Prelude.{true, List, [], ◌∷◌, ◌≡◌, ℕ}
use Rattle.record.specs.Record.{empty_record}
use Rattle.forms.specs.Demand1 as codec
use Rattle.forms.specs.All.{is_one_of}
use Rattle.record.specs.Answers.{number_in}
use Rattle.search.specs.Answer.{finding_place, finding_record, search_of}

-- for every form's number, every slice and every start
pub record Demand1 : Type 0 where
  pub codecs : codec.Demand1
  -- "the first place, its record, or 1 or else 12"; 0 is no refusal
  pub searches : (form : ℕ) (s : List ℕ) (start : ℕ) → is_one_of (0 ∷ 1 ∷ 12 ∷ []) (number_in (search_of form s start)) ≡ true
  -- "with place 0 and the empty record"
  pub no_place :
      (form : ℕ) (s : List ℕ) (start : ℕ) → (number_in (search_of form s start) ≡ 0 → ⊥) → finding_place (search_of form s start) ≡ 0
  pub empty :
      (form : ℕ) (s : List ℕ) (start : ℕ) → (number_in (search_of form s start) ≡ 0 → ⊥) → finding_record (search_of form s start) ≡ empty_record
