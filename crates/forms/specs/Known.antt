-- A known string of each form, as rows of a table.
use Rattle.std.specs.Prelude.{List, [], ◌∷◌, ◌++◌, ℕ, negsuc, pos, Option, None, Some, true, false}
use Rattle.spelling.specs.Bytes.{text}
use Rattle.record.specs.declared.Date.{Date}
use Rattle.record.specs.declared.Date.TheVariants as DateIs
use Rattle.record.specs.declared.Fraction.TheVariants as FractionIs
use Rattle.record.specs.declared.Position.TheVariants as PositionIs
use Rattle.record.specs.declared.Record.{Record}
use Rattle.forms.specs.Case.{Case, ones_at, reads, writes}
use Rattle.forms.specs.Records.{fields, framed_of, placed_of, split_of, standard_of, synced_of}

-- Friday 28 July 2045, day 209
abbrev pub known_date : Option Date
known_date = Some (DateIs.Full 45 7 28)

abbrev pub record_framed : Record
record_framed = framed_of known_date 13 56 19 (Some false) (Some true) (Some (negsuc 209)) (Some true) (Some false)

-- its frame with ones at these places too
abbrev pub frame_known : List ℕ → List ℕ
frame_known signs =
    ones_at
    (1 ∷ 4 ∷ 6 ∷ 11 ∷ 12 ∷ 15 ∷ 17 ∷ 20 ∷ 21 ∷ 25 ∷ 30 ∷ 33 ∷ 41 ∷ 50 ∷ 52 ∷ 57 ∷ 62 ∷ 63 ∷ 65 ∷ 66 ∷ 70 ∷ 71 ∷ 72 ∷ 73 ∷ 74 ∷ 80 ∷ 81 ∷ 91 ∷ 95 ∷ 96 ∷ signs)

abbrev pub record_full : Record
record_full =
    fields known_date 13 56 19 (Some (FractionIs.TenMillionths 2345678)) (Some 1) (Some true) (Some false) (Some false) (Some true) (Some false) (Some true) (Some (negsuc 224))
    (Some (PositionIs.Degrees (negsuc 338687) (pos 1512093) 431))
    None
    (Some false)

abbrev pub block_full : List ℕ
block_full =
    text "date=45-07-28\ntime=13:56:19\nfraction=2345678\nchannel=1\nsync=yes\nfix=no\nutc=no\nsummer=yes\nchange=no\nleap=yes\n"
    ++ text "offset=-03:45\nposition=-033.8688 +151.2093 0431\ndsp=-\nlsp=no\n"

abbrev pub record_arc : Record
record_arc = placed_of known_date 13 56 19 (Some (FractionIs.Hundredths 2)) (Some false) (Some (PositionIs.Minutes (negsuc 202707) (pos 907293)))

abbrev pub block_arc : List ℕ
block_arc =
    text "date=45-07-28\ntime=13:56:19\nfraction=02\nchannel=-\nsync=no\nfix=-\nutc=-\nsummer=-\nchange=-\nleap=-\n"
    ++ text "offset=-\nposition=-3347.08 +15112.93\ndsp=-\nlsp=-\n"

-- for each form a string in which no two numbers and no two neighbouring letters are alike: a round trip cannot see two
-- fields exchanged
abbrev pub known : List Case
known =
    reads "Standard" 1 (text "\u{2}D:28.07.45;T:5;U:13.56.19;# UA\u{3}") 0 (standard_of known_date 13 56 19 (Some false) (Some true) (Some true) (Some false) (Some false) (Some true))
    ∷ reads "Capture" 2 (text "CH1 28.07.45 13:56:19.2034678\r\n") 0
    (split_of known_date 13 56 19 (Some (FractionIs.TenMillionths 2034678)) (Some 1))
    ∷ reads "Uni Erlangen" 3 (text "\u{2}28.07.45; 5; 13:56:19; -03:42; # S A  ; 33.8688S 151.2093E  431m\u{3}") 0
    (fields known_date 13 56 19 None None (Some false) (Some true) None (Some true) (Some false) (Some true)
    (Some (negsuc 221)) (Some (PositionIs.Degrees (negsuc 338687) (pos 1512093) 431)) None None)
    ∷ reads "ABB SPA" 4 (text ">900WD:45-07-28 13.56;19.204:3C\r") 0
    (split_of known_date 13 56 19 (Some (FractionIs.Thousandths 204)) None)
    ∷ reads "RACAL" 5 (text "XGU450728135619\r") 0 (synced_of known_date 13 56 19 None)
    ∷ reads "SYSPLEX-1" 6 (text "\u{1}209:13:56:19 \r\n") 0 (synced_of (Some (DateIs.DayOfYear 209)) 13 56 19 (Some true))
    ∷ reads "Computime" 7 (text "T:45:07:28:05:13:56:19\r\n") 0 (synced_of known_date 13 56 19 None)
    ∷ reads "SAT" 10 (text "\u{2}28.07.45/5/13:56:19CEST#!\r\n\u{3}") 0 (standard_of known_date 13 56 19 (Some false) None (Some false) (Some true) (Some true) None)
    ∷ reads "RMC" 12 (text "$GPRMC,135619.02,V,3347.08,S,15112.93,E,0.0,0.0,280745,0.0,E*52\r\n") 0 record_arc
    ∷ writes "IEEE1344 frame" 8 record_framed 100 0 (frame_known (75 ∷ []))
    ∷ reads "IEEE1344 frame" 8 (frame_known (75 ∷ [])) 0 record_framed
    ∷ writes "frame with the sign as 01 had it" 11 record_framed 100 0 (frame_known (64 ∷ []))
    ∷ reads "frame with the sign as 01 had it" 11 (frame_known (64 ∷ [])) 0 record_framed
    ∷ writes "block" 9 record_full 174 0 block_full
    ∷ reads "block" 9 block_full 0 record_full
    ∷ writes "block of the kinds of RMC" 9 record_arc 174 0 block_arc
    ∷ reads "block of the kinds of RMC" 9 block_arc 0 record_arc
    ∷ []
