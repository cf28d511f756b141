-- The position: "latitude .. and longitude .. in ten-thousandths of a degree, north and east positive, altitude 0..9,999 m", and W-204 "may be in
-- hundredths of a minute without altitude".
use Rattle.std.specs.Prelude.{Bool, true, false, ◌&&◌, List, [], ◌∷◌, ℕ, ◌+◌, ◌*◌, ltb, ℤ, nat_abs, pos, Option, None, Some}
use Prim.Native.String.{String}
use Rattle.cond.specs.Pick.{one_if, pick}
use Rattle.record.specs.declared.Position.{Position}
use Rattle.record.specs.declared.Position.TheVariants as PositionIs
use Rattle.record.specs.Sign.{is_negative, signed}
use Rattle.forms.specs.Fields.Sign.{negative, sign_consistent}
use Rattle.forms.specs.Places.{Layout, has}
use Rattle.forms.specs.Slots.{Slot, Values, altitude, latitude_degrees, latitude_hundredth, latitude_minute, latitude_part, latitude_whole}
use Rattle.forms.specs.Slots.{longitude_degrees, longitude_hundredth, longitude_minute, longitude_part, longitude_whole, south, west}

-- "in ten-thousandths of a degree", "in hundredths of a minute", or none
pub data PositionKind : Type 0 where
  no_position degrees minutes : PositionKind

-- the kind that a layout tells
abbrev pub position_kind : Layout → PositionKind
position_kind ps = pick (has ps altitude) degrees (pick (has ps latitude_minute) minutes no_position)

-- the slots that tell a position of the kind
abbrev pub position_slots : PositionKind → List Slot
position_slots no_position = []
position_slots degrees = south ∷ latitude_degrees ∷ latitude_part ∷ west ∷ longitude_degrees ∷ longitude_part ∷ altitude ∷ []
position_slots minutes = south ∷ latitude_whole ∷ latitude_minute ∷ latitude_hundredth ∷ west ∷ longitude_whole ∷ longitude_minute ∷ longitude_hundredth ∷ []

-- degrees, minutes and hundredths in hundredths of a minute
abbrev pub in_hundredths : ℕ → ℕ → ℕ → ℕ
in_hundredths d m h = d * 6000 + (m * 100 + h)

-- `bbb.bbbbn`, degrees and ten-thousandths; W-204 `bbbb.bb,n`, "position in degrees and minutes with hundredths"
abbrev pub decode_latitude : PositionKind → Values → ℕ
decode_latitude no_position v = 0
decode_latitude degrees v = v latitude_degrees * 10000 + v latitude_part
decode_latitude minutes v = in_hundredths (v latitude_whole) (v latitude_minute) (v latitude_hundredth)

-- `lll.lllle`; W-204 `lllll.ll,e`
abbrev pub decode_longitude : PositionKind → Values → ℕ
decode_longitude no_position v = 0
decode_longitude degrees v = v longitude_degrees * 10000 + v longitude_part
decode_longitude minutes v = in_hundredths (v longitude_whole) (v longitude_minute) (v longitude_hundredth)

-- what is told with its sign, north and east positive

abbrev pub signed_latitude : PositionKind → Values → ℤ
signed_latitude k v = signed (negative (v south)) (decode_latitude k v)

abbrev pub signed_longitude : PositionKind → Values → ℤ
signed_longitude k v = signed (negative (v west)) (decode_longitude k v)

unfoldable pub decode_position : PositionKind → Values → Option Position
decode_position no_position v = None
decode_position degrees v = Some (PositionIs.Degrees (signed_latitude degrees v) (signed_longitude degrees v) (v altitude))
decode_position minutes v = Some (PositionIs.Minutes (signed_latitude minutes v) (signed_longitude minutes v))

-- what a position tells, 0 where it is absent: in the unit of its kind, whichever that is

abbrev pub latitude_of : Option Position → ℤ
latitude_of None = pos 0
latitude_of (Some (PositionIs.Degrees lat lon alt)) = lat
latitude_of (Some (PositionIs.Minutes lat lon)) = lat

abbrev pub longitude_of : Option Position → ℤ
longitude_of None = pos 0
longitude_of (Some (PositionIs.Degrees lat lon alt)) = lon
longitude_of (Some (PositionIs.Minutes lat lon)) = lon

abbrev pub encode_south : Option Position → ℕ
encode_south x = one_if (is_negative (latitude_of x))

abbrev pub encode_west : Option Position → ℕ
encode_west x = one_if (is_negative (longitude_of x))

abbrev pub encode_altitude : Option Position → ℕ
encode_altitude None = 0
encode_altitude (Some (PositionIs.Degrees lat lon alt)) = alt
encode_altitude (Some (PositionIs.Minutes lat lon)) = 0

-- "a carried field is absent or of the other kind" where this is false; W-204 "8 where the wrong kind is there"
abbrev pub has_position : PositionKind → Option Position → Bool
has_position no_position p = true
has_position degrees None = false
has_position degrees (Some (PositionIs.Degrees lat lon alt)) = true
has_position degrees (Some (PositionIs.Minutes lat lon)) = false
has_position minutes None = false
has_position minutes (Some (PositionIs.Degrees lat lon alt)) = false
has_position minutes (Some (PositionIs.Minutes lat lon)) = true

-- the numbers of a position of this kind, 0 where it is absent or of another one: "Neither kind is turned into the other."

abbrev pub encode_latitude : PositionKind → Option Position → ℕ
encode_latitude k x = pick (has_position k x) (nat_abs (latitude_of x)) 0

abbrev pub encode_longitude : PositionKind → Option Position → ℕ
encode_longitude k x = pick (has_position k x) (nat_abs (longitude_of x)) 0

-- absent where it is not carried
unfoldable pub carried_position : PositionKind → Option Position → Option Position
carried_position no_position p = None
carried_position degrees p = p
carried_position minutes p = p

-- which variant of the block's line it takes
abbrev pub position_choice : Option Position → ℕ
position_choice None = 0
position_choice (Some (PositionIs.Degrees lat lon alt)) = 1
position_choice (Some (PositionIs.Minutes lat lon)) = 2

-- W-204 "minutes of 60 or more are 4" where this is false
abbrev pub arc_in_range : Values → Bool
arc_in_range v = ltb (v latitude_minute) 60 && ltb (v longitude_minute) 60

-- "S or W on a zero" where this is false
abbrev pub position_consistent : PositionKind → Values → Bool
position_consistent k v = sign_consistent (v south) (decode_latitude k v) && sign_consistent (v west) (decode_longitude k v)

-- the table's word
abbrev pub position_word : PositionKind → List String
position_word no_position = []
position_word degrees = "position" ∷ []
position_word minutes = "position in minutes" ∷ []
