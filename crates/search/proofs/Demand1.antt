-- Demand 1 of a search: its two refusals have the numbers 1 and 12, and neither has a place or a record.
use Rattle.std.specs.Prelude.{Result, Ok, Err}
use Rattle.cond.proofs.Kit.{[], ◌∷◌, ◌≡◌, Bool, false, refl, true}
use Rattle.cond.specs.Pick.{pick}
use Rattle.record.specs.Record.{empty_record}
use Rattle.record.specs.declared.Record.{Record}
use Rattle.record.specs.declared.refusal.Refusal.TheVariants as refusal
use Rattle.forms.specs.All.{is_one_of}
use Rattle.forms.specs.Forms.{is_serial}
use Rattle.forms.specs.Valid.{length_of, valid_of}
use Rattle.forms.proofs.Demand1 as codec
use Rattle.stream.specs.Search.{first_from, found, not_found}
use Rattle.stream.specs.Search as stream
use Rattle.record.specs.Answers.{number_in}
use Rattle.record.specs.declared.refusal.Refusal.{Refusal}
use Rattle.search.specs.Answer.{finding_place, finding_record, search_of, searched}
use Rattle.search.specs.Demand1.{Demand1}
use Rattle.search.specs.declared.Found.{Found}

search_number : (b : Bool) (f : stream.Found Record)
    → is_one_of (0 ∷ 1 ∷ 12 ∷ []) (number_in (pick b (searched f) (Err refusal.UnknownForm))) ≡ true
search_number true (found p r) = refl
search_number true not_found = refl
search_number false f = refl

no_place : (a : Result Found Refusal) → (number_in a ≡ 0 → ⊥) → finding_place a ≡ 0
no_place (Ok f) h = absurd (h refl)
no_place (Err x) h = refl

no_record : (a : Result Found Refusal) → (number_in a ≡ 0 → ⊥) → finding_record a ≡ empty_record
no_record (Ok f) h = absurd (h refl)
no_record (Err x) h = refl

pub demand_1 : Demand1
unfolding search_of
demand_1 =
    record {
      codecs = codec.demand_1;
      searches = λ form s start. search_number (is_serial form) (first_from (length_of form) (valid_of form) s start);
      no_place = λ form s start. no_place (search_of form s start);
      empty = λ form s start. no_record (search_of form s start);
    }
