-- Demand 3 over a form of n bytes: what a listener that is started afresh answers to a list of bytes. Bytes are counted from 1.
use Rattle.std.specs.Prelude.{List, ◌++◌, ◌≡◌, ℕ, ◌+◌, ◌≤◌, ◌<◌, length, drop, Option}
use Rattle.stream.specs.Answer.{Answer, answer_at, handed_out, nothing, records_of, refused}
use Rattle.stream.specs.Heard.{all_records, heard_all, heard_at}
use Rattle.stream.specs.Search.{search_from}

-- `hears s` is the list of its answers to the bytes s. All else follows from the first field.
pub record Listens {R : Type 0} (n : ℕ) (valid : List ℕ → Option R) (hears : List ℕ → List (Answer R)) : Type 0 where
  -- "Demand 3 is one claim about the whole list of bytes, not one for each byte."
  pub whole : (s : List ℕ) → hears s ≡ heard_all n valid s
  -- "feed it the list byte by byte": one answer for each byte
  pub each : (s : List ℕ) → length (hears s) ≡ length s
  -- "Byte k .. hands out the record of bytes k-n+1 to k if k is at least n and they are a valid string, else nothing"
  pub exact : (s : List ℕ) (k : ℕ) → 0 < k → k ≤ length s → answer_at (hears s) k ≡ handed_out (heard_at n valid s k)
  -- "neither 11 nor 13 occurs"
  pub never_refused : (s : List ℕ) (k c : ℕ) → 0 < k → k ≤ length s → answer_at (hears s) k ≡ refused c → ⊥
  -- "So the records come in order and once each."
  pub in_order : (s : List ℕ) → records_of (hears s) ≡ all_records n valid s
  -- "Where two lists for one form share a piece, behind i bytes in one and j in the other, bytes i+k and j+k hand out the same
  -- for every k from n to the piece's length"
  pub shared_piece :
      (a piece c a' c' : List ℕ) (k : ℕ) → n ≤ k → k ≤ length piece
      → answer_at (hears (a ++ (piece ++ c))) (length a + k) ≡ answer_at (hears (a' ++ (piece ++ c'))) (length a' + k)
  -- "A listener started behind i bytes hands out nothing at its first n-1 bytes"
  pub later_nothing : (s : List ℕ) (i k : ℕ) → 0 < k → k < n → i + k ≤ length s → answer_at (hears (drop i s)) k ≡ nothing
  -- "from k = n on, its byte k hands out the same as byte i+k of the first one"
  pub later_start : (s : List ℕ) (i k : ℕ) → n ≤ k → i + k ≤ length s → answer_at (hears (drop i s)) k ≡ answer_at (hears s) (i + k)
  -- "exactly the records whose strings begin at or after its start, in the same order": those that a search finds from there on
  pub later_records : (s : List ℕ) (i : ℕ) → records_of (hears (drop i s)) ≡ search_from n valid s i
  -- "Repeated search, going on behind each string found, yields the same list as the listener."
  pub same_as_search : (s : List ℕ) → records_of (hears s) ≡ search_from n valid s 0
