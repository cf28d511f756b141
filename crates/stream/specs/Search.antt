-- Search: the first valid string at or after a start, and the search that goes on behind each string found.
use Rattle.std.specs.Prelude.{List, [], ◌∷◌, ◌≡◌, ℕ, zero, suc, ◌+◌, ◌-◌, ◌≤◌, ◌<◌, length, Option, None, Some}
use Rattle.stream.specs.Window.{window}

-- "the first place, its record", or none
pub data Found (R : Type 0) : Type 0 where
  found : ℕ → R → Found R
  not_found : Found R

module _ {R : Type 0} where
  -- this place where there is a record, else what is found further on
  abbrev pub place_or : Option R → ℕ → Found R → Found R
  place_or None p further = further
  place_or (Some r) p further = found p r

  -- the first of c places, from place p on, where a valid string stands
  unfoldable pub first_among : ℕ → (List ℕ → Option R) → List ℕ → ℕ → ℕ → Found R
  first_among n valid s zero p = not_found
  first_among n valid s (suc c) p = place_or (valid (window n s p)) p (first_among n valid s c (p + 1))

  -- the first valid string that "lies wholly at or after the given start": the places are those with n bytes from there to the
  -- end, and there are none "where the start is past the end"
  unfoldable pub first_from : ℕ → (List ℕ → Option R) → List ℕ → ℕ → Found R
  first_from n valid s start = first_among n valid s (length s + 1 - (start + n)) start

  -- what a search says in plain terms: place p is the first
  pub record FirstAt (n : ℕ) (valid : List ℕ → Option R) (s : List ℕ) (start p : ℕ) (r : R) : Type 0 where
    pub from_start : start ≤ p
    pub inside : p + n ≤ length s
    pub there : valid (window n s p) ≡ Some r
    pub none_before : (i : ℕ) → start ≤ i → i < p → valid (window n s i) ≡ None

  -- the record found in front of those that are found behind its string
  abbrev pub go_on : Found R → (ℕ → List R) → List R
  go_on (found p r) behind = r ∷ behind p
  go_on not_found behind = []

  -- "Repeated search, going on behind each string found", at most t times
  unfoldable pub search_times : ℕ → (List ℕ → Option R) → ℕ → List ℕ → ℕ → List R
  search_times n valid zero s start = []
  search_times n valid (suc t) s start = go_on (first_from n valid s start) (λ p. search_times n valid t s (p + n))

  -- the same until nothing more is found: a list has no more strings than bytes
  unfoldable pub search_from : ℕ → (List ℕ → Option R) → List ℕ → ℕ → List R
  search_from n valid s start = search_times n valid (length s) s start
