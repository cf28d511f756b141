-- W-204: calls of form 12 and of the new kinds in the other forms, with their answers.
use Rattle.std.specs.Prelude.{List, [], ◌∷◌, ◌++◌, ℕ, negsuc, pos, Option, None, Some, true, false}
use Prim.Native.String.{String}
use Rattle.spelling.specs.Bytes.{text}
use Rattle.record.specs.Record.{empty_record}
use Rattle.record.specs.declared.Date.TheVariants as DateIs
use Rattle.record.specs.declared.Fraction.{Fraction}
use Rattle.record.specs.declared.Fraction.TheVariants as FractionIs
use Rattle.record.specs.declared.Position.{Position}
use Rattle.record.specs.declared.Position.TheVariants as PositionIs
use Rattle.record.specs.declared.Record.{Record}
use Rattle.forms.specs.Case.{Case, reads, writes}
use Rattle.forms.specs.Records.{fields, placed_of, split_of}

-- noon of 1 January 2024 with these kinds; the block's example `+4721.00 +00803.75` is 284,100 and 48,375 hundredths of a minute
abbrev pub noon_of : Option Fraction → Option Position → Record
noon_of f p = placed_of (Some (DateIs.Full 24 1 1)) 12 0 0 f (Some true) p

abbrev pub example : Option Position
example = Some (PositionIs.Minutes (pos 284100) (pos 48375))

-- the same place in ten-thousandths of a degree, the other kind
abbrev pub example_degrees : Option Position
example_degrees = Some (PositionIs.Degrees (pos 473500) (pos 80625) 431)

-- the string of noon with these bytes from the latitude to the sum
abbrev pub noon : String → List ℕ
noon t = text "$GPRMC,120000.00,A," ++ text t ++ text "\r\n"

-- the block of the example with this value for its position
abbrev pub block_on : String → List ℕ
block_on t =
    text "date=24-01-01\ntime=12:00:00\nfraction=00\nchannel=-\nsync=yes\nfix=-\nutc=-\nsummer=-\nchange=-\nleap=-\noffset=-\nposition="
    ++ text t
    ++ text "\ndsp=-\nlsp=-\n"

abbrev pub rmc_cases : List Case
rmc_cases =
    reads "the block's example" 12 (noon "4721.00,N,00803.75,E,0.0,0.0,010124,0.0,E*54") 0 (noon_of (Some (FractionIs.Hundredths 0)) example)
    ∷ writes "the block's example" 12 (noon_of (Some (FractionIs.Hundredths 0)) example) 65 0 (noon "4721.00,N,00803.75,E,0.0,0.0,010124,0.0,E*54")
    ∷ reads "a Meinberg GPS164DHS" 12 (text "$GPRMC,221019.00,V,4742.21,N,01200.75,E,0.0,0.0,181223,0.0,E*4A\r\n") 0
    (placed_of (Some (DateIs.Full 23 12 18)) 22 10 19 (Some (FractionIs.Hundredths 0)) (Some false) (Some (PositionIs.Minutes (pos 286221) (pos 72075))))
    ∷ reads "90 and 180 degrees" 12 (text "$GPRMC,235960.99,A,9000.00,S,18000.00,W,0.0,0.0,290224,0.0,E*53\r\n") 0
    (placed_of (Some (DateIs.Full 24 2 29)) 23 59 60 (Some (FractionIs.Hundredths 99)) (Some true) (Some (PositionIs.Minutes (negsuc 539999) (negsuc 1079999))))
    ∷ reads "89 degrees, 60 minutes" 12 (noon "8960.00,N,00803.75,E,0.0,0.0,010124,0.0,E*53") 4 empty_record
    ∷ reads "179 degrees, 60 minutes" 12 (noon "4721.00,N,17960.00,E,0.0,0.0,010124,0.0,E*54") 4 empty_record
    ∷ reads "beyond 90 degrees" 12 (noon "9000.01,N,00803.75,E,0.0,0.0,010124,0.0,E*5C") 4 empty_record
    ∷ reads "S on a zero" 12 (noon "0000.00,S,00803.75,E,0.0,0.0,010124,0.0,E*49") 5 empty_record
    ∷ reads "W on a zero" 12 (noon "4721.00,N,00000.00,W,0.0,0.0,010124,0.0,E*4F") 5 empty_record
    ∷ reads "another sum" 12 (noon "4721.00,N,00803.75,E,0.0,0.0,010124,0.0,E*55") 6 empty_record
    ∷ reads "spaces for zeros" 12 (noon "4721.00,N,  803.75,E,0.0,0.0,010124,0.0,E*54") 3 empty_record
    ∷ reads "a speed" 12 (noon "4721.00,N,00803.75,E,0.1,0.0,010124,0.0,E*55") 3 empty_record
    ∷ writes "buffer of 64" 12 (noon_of (Some (FractionIs.Hundredths 0)) example) 64 10 []
    ∷ writes "hundredths over 99" 12 (noon_of (Some (FractionIs.Hundredths 100)) example) 65 7 []
    ∷ []

-- "Neither kind is turned into the other. Refusals: 8 where the wrong kind is there"
abbrev pub kind_cases : List Case
kind_cases =
    writes "thousandths in form 12" 12 (noon_of (Some (FractionIs.Thousandths 0)) example) 65 8 []
    ∷ writes "degrees in form 12" 12 (noon_of (Some (FractionIs.Hundredths 0)) example_degrees) 65 8 []
    ∷ writes "hundredths in form 4" 4 (split_of (Some (DateIs.Full 24 1 1)) 12 0 0 (Some (FractionIs.Hundredths 0)) None) 32 8 []
    ∷ writes "hundredths in form 2" 2 (split_of (Some (DateIs.Full 24 1 1)) 12 0 0 (Some (FractionIs.Hundredths 0)) (Some 0)) 31 8 []
    ∷ writes "minutes in form 3" 3
    (fields (Some (DateIs.Full 24 1 1)) 12 0 0 None None (Some true) (Some true) None (Some false) (Some false) (Some false) (Some (pos 60)) example None None) 66 8 []
    ∷ reads "block" 9 (block_on "+4721.00 +00803.75") 0 (noon_of (Some (FractionIs.Hundredths 0)) example)
    ∷ writes "block" 9 (noon_of (Some (FractionIs.Hundredths 0)) example) 174 0 (block_on "+4721.00 +00803.75")
    ∷ reads "latitude in minutes, longitude in degrees" 9 (block_on "+4721.00 +008.0625 0431") 3 empty_record
    ∷ reads "latitude in degrees, longitude in minutes" 9 (block_on "+047.3500 +00803.75") 3 empty_record
    ∷ reads "minutes with an altitude" 9 (block_on "+4721.00 +00803.75 0431") 3 empty_record
    ∷ reads "60 minutes in a block" 9 (block_on "+8960.00 +00803.75") 4 empty_record
    ∷ reads "minus on a zero in a block" 9 (block_on "-0000.00 +00803.75") 5 empty_record
    ∷ []
