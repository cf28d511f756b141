-- A listener run over a whole list of bytes: which of them hand out a record.
use Rattle.record.specs.declared.refusal.Refusal.{Refusal}
use Rattle.std.specs.Prelude.{List, [], ◌∷◌, ◌≡◌, ℕ, leb, length, Result, Ok, Err}
use Rattle.cond.specs.Pick.{pick}
use Rattle.record.specs.declared.Record.{Record}
use Rattle.record.specs.declared.refusal.Refusal.TheVariants as refusal
use Rattle.forms.specs.Form.{left_of}
use Rattle.forms.specs.Forms.{is_serial}
use Rattle.forms.specs.Valid.{length_of, valid_of}
use Rattle.stream.specs.Answer.{Answer, handed, nothing, refused}
use Rattle.stream.specs.Heard.{heard_all}
use Rattle.stream.specs.Machine.{answers}
use Rattle.listener.specs.Listening.{answer_to, next_of}
use Rattle.listener.specs.declared.Listener.{Listener}

-- the mark of an answer; a refusal never occurs
abbrev pub mark_of : Answer Record → ℕ
mark_of (handed r) = 1
mark_of nothing = 0
mark_of (refused c) = 2

unfoldable pub marks_of : List (Answer Record) → List ℕ
marks_of [] = []
marks_of (a ∷ list) = mark_of a ∷ marks_of list

-- the marks of a listener that is fed a list byte by byte, from the state l on
abbrev pub marks_from : Listener → List ℕ → List ℕ
marks_from l s = marks_of (answers next_of answer_to l s)

-- refusal 1, then 10; else a mark for each byte
unfoldable pub mark_answer : ℕ → ℕ → ℕ → Result ℕ Refusal
mark_answer form bytes room =
    pick (is_serial form) (pick (leb bytes room) (Ok bytes) (Err refusal.ShortBuffer)) (Err refusal.UnknownForm)

-- what the contract says: "Byte k .. hands out the record of bytes k-n+1 to k if k is at least n and they are a valid string, else nothing;
-- neither 11 nor 13 occurs.", for every byte of the list
pub record Marked (form : ℕ) (s : List ℕ) (w : Result ℕ Refusal) (before after : List ℕ) : Type 0 where
  pub answer : w ≡ mark_answer form (length s) (length before)
  pub left : after ≡ left_of w (marks_of (heard_all (length_of form) (valid_of form) s)) before
