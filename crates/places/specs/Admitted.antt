-- Inner: what a writer answers before it stores, and what it may then rely on.
use Rattle.record.specs.declared.refusal.Refusal.{Refusal}
use Rattle.std.specs.Prelude.{Bool, true, ◌≡◌, ℕ, ◌≤◌, leb, Result, Ok, Err}
use Rattle.cond.specs.Pick.{pick}
use Rattle.record.specs.declared.refusal.Refusal.TheVariants as refusal
use Rattle.record.specs.declared.Record.{Record}
use Rattle.record.specs.Record.{is_good}
use Rattle.forms.specs.Form.{Form, carries, is_expressible}
use Rattle.forms.specs.Required.{has_carried}
use Rattle.forms.specs.Encode.{encode}

-- "writers 1, 7, 8, 9, 10": the record is good, its carried fields are there, the form has a word for them, and the buffer
-- has room for so many bytes
unfoldable pub admitted : Bool → Bool → Bool → ℕ → ℕ → Result ℕ Refusal
admitted good carried expressible size room =
    pick good
    (pick carried
    (pick expressible
    (pick (leb size room) (Ok size) (Err refusal.ShortBuffer))
    (Err refusal.NotExpressible))
    (Err refusal.MissingField))
    (Err refusal.BadRecord)

-- a record that a buffer of so many bytes can take in this form
pub record Storable (d : Form) (r : Record) (room : ℕ) : Type 0 where
  pub good : is_good r ≡ true
  pub carried : has_carried (carries d) r ≡ true
  pub expressible : is_expressible d.layout (encode r) ≡ true
  pub fits : d.size ≤ room
