-- All that the program prints for its input.
use Rattle.std.specs.Prelude.{List, ◌++◌, ℕ, length, drop, take}
use Rattle.cond.specs.Pick.{pick}
use Rattle.forms.specs.Forms.{is_serial}
use Rattle.stream.specs.Answer.{records_of}
use Rattle.listener.specs.Listening.{hears}
use Rattle.report.specs.Printed.{printed}
use Rattle.report.specs.Request.{form_of, refused_line}
use Rattle.report.specs.Summary.{end_line}

-- each record that a listener hands out over the stream s, "then `end bytes=` with the number of stream bytes and ` telegrams=` with the
-- number of records"
unfoldable pub told : ℕ → List ℕ → List ℕ
told form s = printed (records_of (hears form s)) ++ end_line (length s) (length (records_of (hears form s)))

-- "one byte `1`..`7`, LF, then the stream"; "A bad or missing first line prints `refused=1` alone"
unfoldable pub answer_to : List ℕ → List ℕ
answer_to input = pick (is_serial (form_of (take 2 input))) (told (form_of (take 2 input)) (drop 2 input)) refused_line
