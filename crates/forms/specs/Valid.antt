-- The valid strings of the serial forms, by the form's number: "n is the form's length", "A valid string of a form is n bytes of which
-- none of the rows 2, 3, 6, 4 and 5 holds; its record is what the layout spells, all else absent."
use Rattle.record.specs.declared.refusal.Refusal.{Refusal}
use Rattle.std.specs.Prelude.{List, [], ◌∷◌, ℕ, ◌-◌, length, get_or, Option, None, Some, Result, Ok, Err}
use Rattle.record.specs.declared.Record.{Record}
use Rattle.forms.specs.Forms.{FormKind, block, form_kind_of, read_as, serial_forms, sized, unknown}
use Rattle.forms.specs.Places.{Layout, fixed, part}
use Rattle.forms.specs.Start.{start_byte}

-- the record of an input that is accepted
abbrev pub record_in : Result Record Refusal → Option Record
record_in (Ok r) = Some r
record_in (Err x) = None

-- the record of a valid string, none for any other bytes
unfoldable pub valid_of : ℕ → List ℕ → Option Record
valid_of n s = record_in (read_as (form_kind_of serial_forms n) s)

-- the length of a layout, 0 where it has not one alone
abbrev pub length_as : FormKind → ℕ
length_as (sized d) = d.size
length_as (block e) = 0
length_as unknown = 0

-- the length of a serial form, 0 for any other number
unfoldable pub length_of : ℕ → ℕ
length_of n = length_as (form_kind_of serial_forms n)

-- the last byte, 0 where there is none
abbrev pub last_byte : List ℕ → ℕ
last_byte s = get_or s (length s - 1) 0

-- the last byte of a layout, 0 where that is no fixed byte
abbrev pub end_byte : Layout → ℕ
end_byte [] = 0
end_byte (part c f ∷ []) = 0
end_byte (fixed bs ∷ []) = last_byte bs
end_byte (p ∷ q ∷ ps) = end_byte (q ∷ ps)

-- the byte that every valid string of a form starts with, and the one that it ends with
abbrev pub start_as : FormKind → ℕ
start_as (sized d) = start_byte d.layout
start_as (block e) = 0
start_as unknown = 0

abbrev pub end_as : FormKind → ℕ
end_as (sized d) = end_byte d.layout
end_as (block e) = 0
end_as unknown = 0

unfoldable pub start_of : ℕ → ℕ
start_of n = start_as (form_kind_of serial_forms n)

unfoldable pub end_of : ℕ → ℕ
end_of n = end_as (form_kind_of serial_forms n)
