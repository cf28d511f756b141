-- The yes or no fields: "sync, fix (position checked), utc, summer, change and leap (announced in the last hour), dsp and lsp".
use Rattle.std.specs.Prelude.{Bool, true, false, ◌||◌, ℕ, zero, suc, eqb, Option, None, Some}
use Rattle.cond.specs.Pick.{pick}

-- a yes or no field has a letter of its own, is the first or the second of two that share one, or is told by the TFOM
pub data FlagKind : Type 0 where
  no_flag own_letter first_of_two second_of_two by_quality : FlagKind

-- the kind that a layout tells, by whether it has a place for the field's own slot, and for the one that it shares or the TFOM

abbrev pub own_kind : Bool → FlagKind
own_kind own = pick own own_letter no_flag

abbrev pub first_kind : Bool → Bool → FlagKind
first_kind shared own = pick shared first_of_two (own_kind own)

abbrev pub second_kind : Bool → Bool → FlagKind
second_kind shared own = pick shared second_of_two (own_kind own)

abbrev pub sync_kind : Bool → Bool → FlagKind
sync_kind own quality = pick own own_letter (pick quality by_quality no_flag)

-- the form tells the field
abbrev pub is_carried : FlagKind → Bool
is_carried no_flag = false
is_carried own_letter = true
is_carried first_of_two = true
is_carried second_of_two = true
is_carried by_quality = true

-- the second letter of a yes or no field means yes
abbrev pub yes_no : ℕ → Option Bool
yes_no zero = Some false
yes_no (suc n) = Some true

-- "`U` utc yes and summer no; space both no; `S` utc no and summer yes" are 2, 0 and 1 of a shared letter, and so are
-- "`!` change only, `A` leap only, space neither"; "TFOM is 0 for sync yes"
unfoldable pub decode_flag : FlagKind → ℕ → ℕ → Option Bool
decode_flag no_flag own shared = None
decode_flag own_letter own shared = yes_no own
decode_flag first_of_two own shared = Some (eqb shared 2)
decode_flag second_of_two own shared = Some (eqb shared 1)
decode_flag by_quality own shared = Some (eqb shared 0)

-- "a carried field is absent" where this is false
abbrev pub has_flag : Bool → Option Bool → Bool
has_flag false f = true
has_flag true None = false
has_flag true (Some false) = true
has_flag true (Some true) = true

-- absent where it is not carried
unfoldable pub carried_flag : Bool → Option Bool → Option Bool
carried_flag false f = None
carried_flag true f = f

-- which variant of the block's line it takes
abbrev pub flag_choice : Option Bool → ℕ
flag_choice None = 0
flag_choice (Some false) = 1
flag_choice (Some true) = 2

-- "TFOM not 0 or 15" where this is false
abbrev pub quality_in_range : ℕ → Bool
quality_in_range n = eqb n 0 || eqb n 15
