-- The fraction of the second: "thousandths 0..999, or ten-millionths 0..9,999,999 (never converted)", and W-204 "may be hundredths".
use Rattle.std.specs.Prelude.{Bool, true, false, List, [], ◌∷◌, ℕ, Option, None, Some}
use Prim.Native.String.{String}
use Rattle.cond.specs.Pick.{pick}
use Rattle.record.specs.declared.Fraction.{Fraction}
use Rattle.record.specs.declared.Fraction.TheVariants as FractionIs
use Rattle.forms.specs.Places.{Layout, has}
use Rattle.forms.specs.Slots.{Slot, Values, hundredth, ten_millionth, thousandth}

-- "thousandths .. or ten-millionths", "hundredths", or none
pub data FractionKind : Type 0 where
  no_fraction thousandths ten_millionths hundredths : FractionKind

-- the kind that a layout tells
abbrev pub fraction_kind : Layout → FractionKind
fraction_kind ps =
    pick (has ps thousandth) thousandths (pick (has ps ten_millionth) ten_millionths (pick (has ps hundredth) hundredths no_fraction))

-- the slots that tell a fraction of the kind
abbrev pub fraction_slots : FractionKind → List Slot
fraction_slots no_fraction = []
fraction_slots thousandths = thousandth ∷ []
fraction_slots ten_millionths = ten_millionth ∷ []
fraction_slots hundredths = hundredth ∷ []

unfoldable pub decode_fraction : FractionKind → Values → Option Fraction
decode_fraction no_fraction v = None
decode_fraction thousandths v = Some (FractionIs.Thousandths (v thousandth))
decode_fraction ten_millionths v = Some (FractionIs.TenMillionths (v ten_millionth))
decode_fraction hundredths v = Some (FractionIs.Hundredths (v hundredth))

-- what a fraction tells, 0 where it is absent or of another kind

abbrev pub encode_thousandths : Option Fraction → ℕ
encode_thousandths None = 0
encode_thousandths (Some (FractionIs.Thousandths n)) = n
encode_thousandths (Some (FractionIs.TenMillionths n)) = 0
encode_thousandths (Some (FractionIs.Hundredths n)) = 0

abbrev pub encode_ten_millionths : Option Fraction → ℕ
encode_ten_millionths None = 0
encode_ten_millionths (Some (FractionIs.Thousandths n)) = 0
encode_ten_millionths (Some (FractionIs.TenMillionths n)) = n
encode_ten_millionths (Some (FractionIs.Hundredths n)) = 0

abbrev pub encode_hundredths : Option Fraction → ℕ
encode_hundredths None = 0
encode_hundredths (Some (FractionIs.Thousandths n)) = 0
encode_hundredths (Some (FractionIs.TenMillionths n)) = 0
encode_hundredths (Some (FractionIs.Hundredths n)) = n

-- "a carried field is absent or of the other kind" where this is false
abbrev pub has_fraction : FractionKind → Option Fraction → Bool
has_fraction no_fraction f = true
has_fraction thousandths None = false
has_fraction thousandths (Some (FractionIs.Thousandths n)) = true
has_fraction thousandths (Some (FractionIs.TenMillionths n)) = false
has_fraction thousandths (Some (FractionIs.Hundredths n)) = false
has_fraction ten_millionths None = false
has_fraction ten_millionths (Some (FractionIs.Thousandths n)) = false
has_fraction ten_millionths (Some (FractionIs.TenMillionths n)) = true
has_fraction ten_millionths (Some (FractionIs.Hundredths n)) = false
has_fraction hundredths None = false
has_fraction hundredths (Some (FractionIs.Thousandths n)) = false
has_fraction hundredths (Some (FractionIs.TenMillionths n)) = false
has_fraction hundredths (Some (FractionIs.Hundredths n)) = true

-- absent where it is not carried
unfoldable pub carried_fraction : FractionKind → Option Fraction → Option Fraction
carried_fraction no_fraction f = None
carried_fraction thousandths f = f
carried_fraction ten_millionths f = f
carried_fraction hundredths f = f

-- which variant of the block's line it takes
abbrev pub fraction_choice : Option Fraction → ℕ
fraction_choice None = 0
fraction_choice (Some (FractionIs.Thousandths n)) = 1
fraction_choice (Some (FractionIs.TenMillionths n)) = 2
fraction_choice (Some (FractionIs.Hundredths n)) = 3

-- the table's word
abbrev pub fraction_word : FractionKind → List String
fraction_word no_fraction = []
fraction_word thousandths = "thousandths" ∷ []
fraction_word ten_millionths = "ten-millionths" ∷ []
fraction_word hundredths = "hundredths" ∷ []
