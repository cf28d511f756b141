-- What the second of a rack's record does to the runs of heard seconds from C: the answer, and every row afterwards.
use Rattle.std.specs.Prelude.{List, ◌≡◌, ℕ}
use Rattle.record.specs.Answers.{number_in, read_record}
use Rattle.record.specs.declared.Record.{Record}
use Rattle.flat_record.specs.Decode.{record_of}
use Rattle.racks.specs.Rows.{added_of, added_to}
use Rattle.racks.specs.declared.Added.{Added}
use Rattle.racks.specs.declared.Row.{Row}
use Rattle.lindenscoop.specs.declared.add_second.AddedNumbers.{AddedNumbers}

-- the record of numbers; numbers that are none give the empty record, which tells no second: "14 no full date or a bad record"
abbrev pub record_given : List ℕ → Record
record_given r = read_record (record_of r)

-- an answer in numbers: "Each answer carries the number in use.", which a refusal leaves as it was handed in
abbrev pub added_numbers : Added → AddedNumbers
added_numbers a = record { answer = number_in a.outcome; used = a.used }

pub record AddedAs (rows : List Row) (used rack : ℕ) (r : List ℕ) (n : AddedNumbers) (rows' : List Row) : Type 0 where
  pub answer : n ≡ added_numbers (added_of used (added_to rows used rack (record_given r)).answer)
  pub left : rows' ≡ (added_to rows used rack (record_given r)).rows
