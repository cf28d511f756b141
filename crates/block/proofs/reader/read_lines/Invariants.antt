-- Behind i lines, what they told and where they end lead to the answer as the whole does; each turn reads one line more.
use Rattle.cond.proofs.Kit.{◌≡◌, ◌≤◌, drop, length}
use Rattle.forms.specs.Block.{block_lines}
use Rattle.block.specs.Reading.{nothing_decoded, read_lines}
use Rattle.block.proofs.reader.read_lines.Given as goal

abbrev pub invariant-loop-i : goal.invariant-loop-i
invariant-loop-i l =
    (l.at ≤ length l.s) × (read_lines block_lines l.s 0 nothing_decoded ≡ read_lines (drop l.i block_lines) l.s l.at l.state)
