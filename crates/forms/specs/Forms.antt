-- The forms by their numbers, and what a reader and a writer answer for each.
use Rattle.record.specs.declared.refusal.Refusal.{Refusal}
use Rattle.std.specs.Prelude.{Bool, true, false, List, [], ◌∷◌, ◌++◌, ◌≡◌, ℕ, eqb, length, Result, Err}
use Rattle.cond.specs.Pick.{pick}
use Rattle.record.specs.declared.Record.{Record}
use Rattle.record.specs.declared.sign.SignRule.{SignRule}
use Rattle.record.specs.declared.sign.SignRule.TheVariants.{OneAbove, OneBelow}
use Rattle.record.specs.declared.refusal.Refusal.TheVariants as refusal
use Rattle.forms.specs.Block.{Edition, block_of, first_edition, read_block}
use Rattle.forms.specs.CarriedPart.{carried_part}
use Rattle.forms.specs.Form.{Form, carries, left_by, read_by, write_by}
use Rattle.forms.specs.Frame.{frame}
use Rattle.forms.specs.Required.{has_carried}
use Rattle.forms.specs.Serial.{capture, computime, erlangen, racal, rmc, sat, spa, standard, sysplex}

-- a form of one length, an edition of the block, or no form at all
pub data FormKind : Type 0 where
  sized : Form → FormKind
  block : Edition → FormKind
  unknown : FormKind

-- a form and its number
pub record Numbered : Type 0 where
  pub number : ℕ
  pub kind : FormKind

abbrev pub numbered : ℕ → FormKind → Numbered
numbered n l = record { number = n; kind = l }

-- the serial forms, which search and listener take: all that is said of serial forms goes by this list
abbrev pub serial_forms : List Numbered
serial_forms =
    numbered 1 (sized standard) ∷ numbered 2 (sized capture) ∷ numbered 3 (sized erlangen) ∷ numbered 4 (sized spa) ∷ numbered 5 (sized racal)
    ∷ numbered 6 (sized sysplex) ∷ numbered 7 (sized computime) ∷ numbered 10 (sized sat) ∷ numbered 12 (sized rmc) ∷ []

-- all forms, which readers and writers take; W-203: form 8 has "sign 1 for an offset above zero", form 11 is the "same frame with the sign as
-- 01 had it"
abbrev pub all_forms : List Numbered
all_forms = serial_forms ++ (numbered 8 (sized (frame OneAbove)) ∷ numbered 11 (sized (frame OneBelow)) ∷ numbered 9 (block first_edition) ∷ [])

-- the number of a frame's form
abbrev pub frame_form : SignRule → ℕ
frame_form OneAbove = 8
frame_form OneBelow = 11

-- the form of a number
unfoldable pub form_kind_of : List Numbered → ℕ → FormKind
form_kind_of [] n = unknown
form_kind_of (e ∷ es) n = pick (eqb n e.number) e.kind (form_kind_of es n)

-- there is a form
abbrev pub is_known : FormKind → Bool
is_known (sized d) = true
is_known (block e) = true
is_known unknown = false

-- refusals 1 and 11: "search, new listener: not 1..7", "listener state: form not 1..7" where this is false; "1 and 11 no longer bar form 10",
-- and W-204 "1 and 11 no longer bar 12"
unfoldable pub is_serial : ℕ → Bool
is_serial n = is_known (form_kind_of serial_forms n)

-- the reader's answer
unfoldable pub read_as : FormKind → List ℕ → Result Record Refusal
read_as (sized d) s = read_by d s
read_as (block e) s = read_block e s
read_as unknown s = Err refusal.UnknownForm

unfoldable pub read_form : ℕ → List ℕ → Result Record Refusal
read_form n s = read_as (form_kind_of all_forms n) s

-- the writer's answer into a buffer of so many bytes
unfoldable pub write_as : FormKind → Record → ℕ → Result ℕ Refusal
write_as (sized d) r room = write_by d r room
write_as (block e) r room = write_by (block_of e r) r room
write_as unknown r room = Err refusal.UnknownForm

unfoldable pub write_form : ℕ → Record → ℕ → Result ℕ Refusal
write_form n r room = write_as (form_kind_of all_forms n) r room

-- what the writer leaves in the buffer
unfoldable pub left_as : FormKind → Record → List ℕ → List ℕ
left_as (sized d) r out = left_by d r out
left_as (block e) r out = left_by (block_of e r) r out
left_as unknown r out = out

unfoldable pub left_form : ℕ → Record → List ℕ → List ℕ
left_form n r out = left_as (form_kind_of all_forms n) r out

-- "a carried field is absent or of the other kind (form 9 never ..)" where this is false
abbrev pub has_carried_as : FormKind → Record → Bool
has_carried_as (sized d) r = has_carried (carries d) r
has_carried_as (block e) r = true
has_carried_as unknown r = true

unfoldable pub has_carried_form : ℕ → Record → Bool
has_carried_form n r = has_carried_as (form_kind_of all_forms n) r

-- what a form carries of a record, all else absent; the block carries "every field"
abbrev pub carried_as : FormKind → Record → Record
carried_as (sized d) r = carried_part (carries d) r
carried_as (block e) r = r
carried_as unknown r = r

unfoldable pub carried_form : ℕ → Record → Record
carried_form n r = carried_as (form_kind_of all_forms n) r

-- what the contract of a writer of several forms says: its answer, and every byte of the buffer afterwards
pub record WroteAs (l : FormKind) (r : Record) (w : Result ℕ Refusal) (before after : List ℕ) : Type 0 where
  pub answer : w ≡ write_as l r (length before)
  pub left : after ≡ left_as l r before
