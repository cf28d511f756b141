-- The rows of a writer, "given exactly when", in the order 1, 7, 8, 9, 10; and row 9 by itself.
use Rattle.std.specs.Prelude.{Bool, true, false, ◌&&◌, ◌||◌, not, ◌≡◌, ℕ, ◌%◌, eqb, leb, nat_abs}
use Rattle.cond.specs.Pick.{pick}
use Rattle.record.specs.Answers.{number_in}
use Rattle.record.specs.Record.{is_good, is_yes}
use Rattle.record.specs.declared.Record.{Record}
use Rattle.forms.specs.Block.{block_of}
use Rattle.forms.specs.Fields.Offset.{minutes_of}
use Rattle.forms.specs.Forms.{FormKind, all_forms, block, form_kind_of, has_carried_form, is_known, sized, unknown, write_form}

-- 9: "form 1 with change and leap both yes; form 8 with an offset not a multiple of 30", and form 11 as form 8
abbrev pub has_no_word : ℕ → Record → Bool
has_no_word form r =
    (eqb form 1 && (is_yes r.change && is_yes r.leap)) || ((eqb form 8 || eqb form 11) && not (eqb (nat_abs (minutes_of r.offset) % 30) 0))

-- the bytes of the output
abbrev pub output_size : FormKind → Record → ℕ
output_size (sized d) r = d.size
output_size (block e) r = (block_of e r).size
output_size unknown r = 0

-- 7 "the record is bad"; 8 "a carried field is absent or of the other kind"; 9; 10 "the buffer is shorter than the output"; else 0
abbrev pub number_after : (good complete no_word roomy : Bool) → ℕ
number_after good complete no_word roomy = pick good (pick complete (pick no_word 9 (pick roomy 0 10)) 8) 7

-- the tests 1, 7 and 8 passed
pub record Passed (form : ℕ) (r : Record) : Type 0 where
  pub known : is_known (form_kind_of all_forms form) ≡ true
  pub good : is_good r ≡ true
  pub complete : has_carried_form form r ≡ true

pub record WriterNumbers : Type 0 where
  -- "form is not 1..9", nor one that document 02 adds
  pub one : (form : ℕ) (r : Record) (room : ℕ) → is_known (form_kind_of all_forms form) ≡ false → number_in (write_form form r room) ≡ 1
  -- "writers 1, 7, 8, 9, 10"
  pub others :
      (form : ℕ) (r : Record) (room : ℕ) → is_known (form_kind_of all_forms form) ≡ true
      → number_in (write_form form r room)
      ≡ number_after (is_good r) (has_carried_form form r) (has_no_word form r) (leb (output_size (form_kind_of all_forms form) r) room)
  -- 9 is given then, and only then
  pub nine : (form : ℕ) (r : Record) (room : ℕ) → Passed form r → has_no_word form r ≡ true → number_in (write_form form r room) ≡ 9
  pub only_nine : (form : ℕ) (r : Record) (room : ℕ) → number_in (write_form form r room) ≡ 9 → Passed form r × (has_no_word form r ≡ true)
