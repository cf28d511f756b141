-- W-205: years of both centuries, as rows of a table.
use Rattle.std.specs.Prelude.{List, [], ◌∷◌, pos, None, Some, true, false}
use Rattle.spelling.specs.Bytes.{text}
use Rattle.record.specs.Record.{empty_record}
use Rattle.record.specs.declared.Date.TheVariants as DateIs
use Rattle.record.specs.declared.Position.TheVariants as PositionIs
use Rattle.forms.specs.Case.{Case, ones_at, reads, writes}
use Rattle.forms.specs.Records.{fields, framed_of, standard_of, synced_of}

-- "every date on it was refused for its weekday": a string of 1991 with its weekday, and with that of 2091; a recorded string of 1993
abbrev pub year_cases : List Case
year_cases =
    reads "Tuesday, 1 January 1991" 1 (text "\u{2}D:01.01.91;T:2;U:12.00.00;  U \u{3}") 0 (standard_of (Some (DateIs.Full 91 1 1)) 12 0 0 (Some true) (Some true) (Some true) (Some false) (Some false) (Some false))
    ∷ reads "Monday, 1 January 2091" 1 (text "\u{2}D:01.01.91;T:1;U:12.00.00;  U \u{3}") 5 empty_record
    ∷ reads "Friday, 9 July 1993" 3 (text "\u{2}09.07.93; 5; 08:48:26; +00:00;        ; 49.5736N  11.0280E  373m\u{3}") 0
    (fields (Some (DateIs.Full 93 7 9)) 8 48 26 None None (Some true) (Some true) None (Some false) (Some false) (Some false)
    (Some (pos 0)) (Some (PositionIs.Degrees (pos 495736) (pos 110280) 373)) None None)
    ∷ writes "Tuesday, 1 January 1980" 7 (synced_of (Some (DateIs.Full 80 1 1)) 0 0 0 None) 24 0 (text "T:80:01:01:02:00:00:00\r\n")
    ∷ writes "Saturday, 1 January 2000" 7 (synced_of (Some (DateIs.Full 0 1 1)) 0 0 0 None) 24 0 (text "T:00:01:01:06:00:00:00\r\n")
    ∷ writes "Sunday, 31 December 2079" 7 (synced_of (Some (DateIs.Full 79 12 31)) 0 0 0 None) 24 0 (text "T:79:12:31:07:00:00:00\r\n")
    ∷ reads "day 366 of 1980" 8 (ones_at (31 ∷ 32 ∷ 36 ∷ 37 ∷ 40 ∷ 41 ∷ 58 ∷ 75 ∷ [])) 0
    (framed_of (Some (DateIs.Full 80 12 31)) 0 0 0 (Some true) (Some false) (Some (pos 0)) (Some false) (Some false))
    ∷ reads "29 February 1981" 5 (text "XGU810229000000\r") 4 empty_record
    ∷ []
