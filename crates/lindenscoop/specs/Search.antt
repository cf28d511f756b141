-- What the search answers, its place and every number of the record afterwards.
use Rattle.record.specs.Answers.{number_in}
use Rattle.std.specs.Prelude.{List, ◌≡◌, ℕ}
use Rattle.cond.specs.Pick.{pick}
use Rattle.search.specs.Answer.{finding_place, finding_record, search_of}
use Rattle.lindenscoop.specs.Buffers.{record_fits, shown, too_short}

-- "Search answers the first place, its record, or 1 or else 12, tested in that order, with place 0 and the empty record."
pub record SearchedAs (form : ℕ) (bytes : List ℕ) (start : ℕ) (r : List ℕ) (n p' : ℕ) (r' : List ℕ) : Type 0 where
  pub number : n ≡ pick (record_fits r) (number_in (search_of form bytes start)) too_short
  pub place : p' ≡ pick (record_fits r) (finding_place (search_of form bytes start)) 0
  pub numbers : r' ≡ pick (record_fits r) (shown (finding_record (search_of form bytes start)) r) r
