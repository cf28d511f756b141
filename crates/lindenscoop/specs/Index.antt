-- What a listener run over a slice answers, and every mark afterwards.
use Rattle.std.specs.Prelude.{List, ◌≡◌, ℕ, length}
use Rattle.record.specs.Answers.{number_in}
use Rattle.forms.specs.Form.{left_of}
use Rattle.forms.specs.Valid.{length_of, valid_of}
use Rattle.stream.specs.Heard.{heard_all}
use Rattle.listener.specs.Marks.{mark_answer, marks_of}

-- "Byte k .. hands out the record of bytes k-n+1 to k .., else nothing": a mark for each byte; or refusal 1 or 10 and no mark changed
pub record MarkedAs (form : ℕ) (s before : List ℕ) (n : ℕ) (after : List ℕ) : Type 0 where
  pub number : n ≡ number_in (mark_answer form (length s) (length before))
  pub left : after ≡ left_of (mark_answer form (length s) (length before)) (marks_of (heard_all (length_of form) (valid_of form) s)) before
