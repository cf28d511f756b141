-- A table of calls and their answers, and what it claims: a row names a call and says its answer in the paper's numbers and values.
use Rattle.std.specs.Prelude.{List, [], ◌∷◌, ◌≡◌, ℕ, zero, suc, replicate, take}
use Prim.Native.String.{String}
use Rattle.cond.specs.Pick.{one_if, pick}
use Rattle.record.specs.Answers.{number_in, read_record, written_length}
use Rattle.record.specs.declared.Record.{Record}
use Rattle.forms.specs.All.{is_one_of}
use Rattle.forms.specs.Forms.{left_form, read_form, write_form}

-- a row of the table
pub data Case : Type 0 where
  -- a letter or name, the form and the input; the number, and the record
  reads : String → ℕ → List ℕ → ℕ → Record → Case
  -- a letter or name, the form, the record and the buffer's length; the number, and the bytes written
  writes : String → ℕ → Record → ℕ → ℕ → List ℕ → Case

-- the row with the answer that the definitions give; a writer is lent zeros
abbrev pub answered : Case → Case
answered (reads name form input number r) = reads name form input (number_in (read_form form input)) (read_record (read_form form input))
answered (writes name form r room number bytes) =
    writes name form r room (number_in (write_form form r room)) (take (written_length (write_form form r room)) (left_form form r (replicate room 0)))

unfoldable pub answered_all : List Case → List Case
answered_all [] = []
answered_all (c ∷ cs) = answered c ∷ answered_all cs

-- every row has the answer that the definitions give
abbrev pub Holds : List Case → Type 0
Holds cs = answered_all cs ≡ cs

-- element k of a frame with ones at these places: "Marks stand at 0, 9, 19, .. 99"
abbrev pub element_at : List ℕ → ℕ → ℕ
element_at ones k = pick (is_one_of (0 ∷ 9 ∷ 19 ∷ 29 ∷ 39 ∷ 49 ∷ 59 ∷ 69 ∷ 79 ∷ 89 ∷ 99 ∷ []) k) 2 (one_if (is_one_of ones k))

unfoldable pub elements_from : ℕ → ℕ → List ℕ → List ℕ
elements_from k zero ones = []
elements_from k (suc n) ones = element_at ones k ∷ elements_from (suc k) n ones

-- the hundred elements with ones at these places alone
abbrev pub ones_at : List ℕ → List ℕ
ones_at = elements_from 0 100
