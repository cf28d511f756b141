-- The offset: "minutes of local time minus UTC, -840..840".
use Rattle.std.specs.Prelude.{Bool, true, false, List, [], ◌∷◌, ℕ, ◌+◌, ◌*◌, eqb, ltb, ℤ, nat_abs, neg_ℤ, pos, Option, None, Some}
use Rattle.cond.specs.Pick.{one_if, pick}
use Rattle.record.specs.declared.sign.SignRule.{SignRule}
use Rattle.record.specs.declared.sign.SignRule.TheVariants.{OneAbove, OneBelow}
use Rattle.record.specs.Sign.{is_negative, signed}
use Rattle.forms.specs.Fields.Sign.{negative, sign_consistent}
use Rattle.forms.specs.Places.{Layout, has}
use Rattle.forms.specs.Slots.{Slot, Values, half_hour, minus, offset_hours, offset_minutes, plus}

-- the sign of an offset

-- the slot of each rule: "Sign 0 means an offset of zero or more"; W-203 "sign 1 for an offset above zero, 0 for zero or below"
abbrev pub sign_slot : SignRule → Slot
sign_slot OneBelow = minus
sign_slot OneAbove = plus

-- W-203 "the offset that is added to the encoded time to reach UTC"
abbrev pub opposite : Option ℤ → Option ℤ
opposite None = None
opposite (Some z) = Some (neg_ℤ z)

-- the offset that a sign of 1 tells as below zero
abbrev pub told_by : SignRule → Option ℤ → Option ℤ
told_by OneBelow x = x
told_by OneAbove x = opposite x

-- an offset in hours and minutes, its sign `+` or `-`, or in hours and half hours by a sign rule
pub data OffsetKind : Type 0 where
  no_offset in_minutes : OffsetKind
  in_half_hours : SignRule → OffsetKind

-- the kind that a layout tells: one that tells hours carries an offset, whatever slot tells its sign
abbrev pub offset_kind : Layout → OffsetKind
offset_kind ps = pick (has ps half_hour) (in_half_hours (pick (has ps plus) OneAbove OneBelow)) (pick (has ps offset_hours) in_minutes no_offset)

abbrev pub sign_rule : OffsetKind → SignRule
sign_rule no_offset = OneBelow
sign_rule in_minutes = OneBelow
sign_rule (in_half_hours x) = x

-- the slots that tell an offset of the kind
abbrev pub offset_slots : OffsetKind → List Slot
offset_slots no_offset = []
offset_slots in_minutes = minus ∷ offset_hours ∷ offset_minutes ∷ []
offset_slots (in_half_hours x) = offset_hours ∷ half_hour ∷ sign_slot x ∷ []

abbrev pub is_offset : OffsetKind → Bool
is_offset no_offset = false
is_offset in_minutes = true
is_offset (in_half_hours x) = true

-- `voo:oo`, hours and minutes; in the frame "whole hours of offset" and "its half hour"
unfoldable pub decode_minutes : OffsetKind → Values → ℕ
decode_minutes no_offset v = 0
decode_minutes in_minutes v = v offset_hours * 60 + v offset_minutes
decode_minutes (in_half_hours x) v = v offset_hours * 60 + v half_hour * 30

-- the sign that is told
abbrev pub told_sign : OffsetKind → Values → ℕ
told_sign k v = v (sign_slot (sign_rule k))

unfoldable pub decode_offset : Bool → ℕ → ℕ → Option ℤ
decode_offset false sign n = None
decode_offset true sign n = Some (signed (negative sign) n)

-- what an offset tells, 0 where it is absent

abbrev pub minutes_of : Option ℤ → ℤ
minutes_of None = pos 0
minutes_of (Some z) = z

abbrev pub encode_minus : Option ℤ → ℕ
encode_minus x = one_if (is_negative (minutes_of x))

abbrev pub encode_minutes : Option ℤ → ℕ
encode_minutes x = nat_abs (minutes_of x)

-- no half hour, one, or minutes that are neither
unfoldable pub half_hour_of : ℕ → ℕ
half_hour_of n = pick (eqb n 0) 0 (pick (eqb n 30) 1 2)

-- "a carried field is absent" where this is false
abbrev pub has_offset : Bool → Option ℤ → Bool
has_offset false o = true
has_offset true None = false
has_offset true (Some z) = true

-- absent where it is not carried
unfoldable pub carried_offset : Bool → Option ℤ → Option ℤ
carried_offset false o = None
carried_offset true o = o

-- which variant of the block's line it takes
abbrev pub offset_choice : Option ℤ → ℕ
offset_choice None = 0
offset_choice (Some z) = 1

-- "offset minutes over 59" where this is false
abbrev pub minutes_in_range : ℕ → Bool
minutes_in_range n = ltb n 60

-- "minus .. on a zero" where this is false; W-203 "sign 1 on a zero stays 5"
abbrev pub offset_consistent : OffsetKind → Values → Bool
offset_consistent k v = sign_consistent (told_sign k v) (decode_minutes k v)
