-- The channel: "channel 0 or 1".
use Rattle.std.specs.Prelude.{Bool, true, false, ℕ, Option, None, Some}
use Rattle.forms.specs.Slots.{Values, channel}

unfoldable pub decode_channel : Bool → Values → Option ℕ
decode_channel false v = None
decode_channel true v = Some (v channel)

-- what a channel tells, 0 where it is absent
abbrev pub encode_channel : Option ℕ → ℕ
encode_channel None = 0
encode_channel (Some n) = n

-- "a carried field is absent" where this is false
abbrev pub has_channel : Bool → Option ℕ → Bool
has_channel false c = true
has_channel true None = false
has_channel true (Some n) = true

-- absent where it is not carried
unfoldable pub carried_channel : Bool → Option ℕ → Option ℕ
carried_channel false c = None
carried_channel true c = c

-- which variant of the block's line it takes
abbrev pub channel_choice : Option ℕ → ℕ
channel_choice None = 0
channel_choice (Some n) = 1
