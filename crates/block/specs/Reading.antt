-- Inner: the block read line by line.
use Rattle.record.specs.declared.Record.{Record}
use Rattle.record.specs.declared.refusal.Refusal.{Refusal}
use Rattle.std.specs.Prelude.{true, ◌&&◌, List, [], ◌∷◌, ℕ, ◌+◌, eqb, ltb, length, drop, Option, None, Some, Result, Ok, Err}
use Rattle.cond.specs.Pick.{pick}
use Rattle.record.specs.declared.refusal.Refusal.TheVariants as refusal
use Rattle.record.specs.Record.{empty_record, in_range, zone_agrees}
use Rattle.forms.specs.Block.{Line}
use Rattle.block_lines.specs.Reading.{line_read}
use Rattle.block_lines.specs.declared.state.State.{State}

-- "Readers test in the order 1, 2, 3, 6, 4, 5": the last two tests of what the lines told
unfoldable pub validated_state : State → Result Record Refusal
validated_state b =
    pick (in_range b.known && (b.arc && ltb b.minutes 60))
    (pick ((b.zone && b.place) && zone_agrees b.known) (Ok b.known) (Err refusal.Disagreement))
    (Err refusal.OutOfRange)

-- nothing is told before the first line
abbrev pub nothing_decoded : State
nothing_decoded = record { known = empty_record; minutes = 0; zone = true; place = true; arc = true }

-- the reading goes on behind a line, with its size and what is told by then; "a .. key or spelling is wrong" without one
abbrev pub onward : Option (ℕ × State) → (ℕ → State → Result Record Refusal) → Result Record Refusal
onward None k = Err refusal.WrongByte
onward (Some (n, b)) k = k n b

-- lines from a column on, behind lines that told b; they end where the bytes end
unfoldable pub read_lines : List Line → List ℕ → ℕ → State → Result Record Refusal
read_lines [] s at b = pick (eqb at (length s)) (validated_state b) (Err refusal.WrongByte)
read_lines (l ∷ ls) s at b = onward (line_read l (drop at s) b) (λ n x. read_lines ls s (at + n) x)
