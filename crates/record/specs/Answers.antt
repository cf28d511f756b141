-- The number of refusal and the values in the answers of readers and writers.
use Rattle.std.specs.Prelude.{ℕ, Result, Ok, Err}
use Rattle.record.specs.declared.Record.{Record}
use Rattle.record.specs.declared.refusal.Refusal.{Refusal}
use Rattle.record.specs.Record.{empty_record}
use Rattle.record.specs.Refusal.{number_of}

-- the number of the refusal in an answer, 0 for none
abbrev pub number_in : {T : Type 0} → Result T Refusal → ℕ
number_in (Ok x) = 0
number_in (Err e) = number_of e

-- the record of a reader's answer: a refused read has the empty record
abbrev pub read_record : Result Record Refusal → Record
read_record (Ok r) = r
read_record (Err e) = empty_record

-- the length of a writer's answer: a refused write has length 0
abbrev pub written_length : Result ℕ Refusal → ℕ
written_length (Ok n) = n
written_length (Err e) = 0
