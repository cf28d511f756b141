-- What the program writes: records, then the last line; or that the first line is a bad one.
use Rattle.std.specs.Prelude.{List, ℕ}
use Rattle.report.specs.Request.{refused_line}
use Rattle.report.specs.Stream.{AsHeard}
use Rattle.report.specs.Summary.{end_line}
use Rattle.heard.specs.Counted.{Counted}

-- a text for standard output
pub data Output : List ℕ → Type 0 where
  -- "It prints each record as a block and an empty line": those that a listener hands out over some bytes
  records : {form : ℕ} {s text : List ℕ} {count : ℕ} → AsHeard form s text count → Output text
  -- "then `end bytes=` .."
  summary : {form carried : ℕ} {buffer : List ℕ} {bytes telegrams : ℕ} → Counted form carried buffer bytes telegrams → Output (end_line bytes telegrams)
  -- "A bad or missing first line prints `refused=1` alone."
  refused : Output refused_line
