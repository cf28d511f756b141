-- "Strings on the bench (A to L are the proved set)": tables of calls and their answers.
use Rattle.std.specs.Prelude.{List, [], ◌∷◌, ℕ, ℤ, negsuc, pos, replicate, set, Option, None, Some, Bool, true, false}
use Rattle.spelling.specs.Bytes.{text}
use Rattle.record.specs.Record.{empty_record}
use Rattle.record.specs.declared.Date.TheVariants as DateIs
use Rattle.record.specs.declared.Fraction.TheVariants as FractionIs
use Rattle.record.specs.declared.Position.TheVariants as PositionIs
use Rattle.record.specs.declared.Record.{Record}
use Rattle.forms.specs.Case.{Case, Holds, ones_at, reads, writes}
use Rattle.forms.specs.Known.{known}
use Rattle.forms.specs.RmcCases.{kind_cases, rmc_cases}
use Rattle.forms.specs.Records.{fields, framed_of, split_of, standard_of, synced_of}
use Rattle.forms.specs.YearCases.{year_cases}

-- "J date 23-12-31, 23:59:59, sync yes"
abbrev pub record_j : Record
record_j = synced_of (Some (DateIs.Full 23 12 31)) 23 59 59 (Some true)

-- "L frame for 24-01-01 00:00:00, sync yes, offset 0, all else no: ones at 30, 52, 56 and 75 alone"
abbrev pub record_l : Record
record_l = framed_of (Some (DateIs.Full 24 1 1)) 0 0 0 (Some true) (Some false) (Some (pos 0)) (Some false) (Some false)

abbrev pub frame_l : List ℕ
frame_l = ones_at (30 ∷ 52 ∷ 56 ∷ 75 ∷ [])

-- "A to L are the proved set"
abbrev pub cases : List Case
cases =
    reads "A" 1 (text "\u{2}D:01.01.24;T:1;U:12.00.00;  U \u{3}") 0 (standard_of (Some (DateIs.Full 24 1 1)) 12 0 0 (Some true) (Some true) (Some true) (Some false) (Some false) (Some false))
    ∷ reads "B" 1 (text "\u{2}D:01.01.24;T:2;U:12.00.00;  U \u{3}") 5 empty_record
    ∷ reads "C" 1 (text "\u{2}D:01.01.24;T:8;U:12.00.00;  U \u{3}") 4 empty_record
    ∷ reads "D" 1 (text "\u{2}D:29.02.24;T:4;U:23.59.60;#*S!\u{3}") 0 (standard_of (Some (DateIs.Full 24 2 29)) 23 59 60 (Some false) (Some false) (Some false) (Some true) (Some true) (Some false))
    ∷ reads "E" 1 (text "\u{2}D:29.02.23;T:4;U:23.59.60;#*S!\u{3}") 4 empty_record
    ∷ reads "F" 4 (text ">900WD:24-01-01 12.00;00.000:3A\r") 0 (split_of (Some (DateIs.Full 24 1 1)) 12 0 0 (Some (FractionIs.Thousandths 0)) None)
    ∷ reads "G" 4 (text ">900WD:24-01-01 12.00;00.000:00\r") 6 empty_record
    ∷ reads "H" 5 (text "XGU000229000000\r") 0 (synced_of (Some (DateIs.Full 0 2 29)) 0 0 0 None)
    ∷ reads "I" 6 (text "\u{1}366:23:59:60?\r\n") 0 (synced_of (Some (DateIs.DayOfYear 366)) 23 59 60 (Some false))
    ∷ writes "J" 6 record_j 16 0 (text "\u{1}365:23:59:59 \r\n")
    ∷ reads "K" 2 (text "CH2 01.01.24 12:00:00.0000000\r\n") 4 empty_record
    ∷ writes "L" 8 record_l 100 0 frame_l
    ∷ reads "L, read back" 8 frame_l 0 record_l
    ∷ []

-- the record of case A, and a record with an offset of so many minutes
abbrev pub record_a : Record
record_a = standard_of (Some (DateIs.Full 24 1 1)) 12 0 0 (Some true) (Some true) (Some true) (Some false) (Some false) (Some false)

abbrev pub with_offset : ℤ → Record
with_offset z = framed_of (Some (DateIs.Full 24 1 1)) 0 0 0 (Some true) (Some false) (Some z) (Some false) (Some false)

-- the other lines of the bench: "Buffer of 31 bytes for form 1: 10; of 32: done. Offset 840 accepted, 841 a bad record. Offset 345 in
-- form 8: 9. A block of 117 or 175 bytes: 2."; and the frame of case L with elements changed
abbrev pub further : List Case
further =
    reads "north" 3 (text "\u{2}01.01.24; 1; 13:00:00; +01:00; #*     ; 47.3500N   8.0625E  431m\u{3}") 0
    (fields (Some (DateIs.Full 24 1 1)) 13 0 0 None None (Some false) (Some false) None (Some false) (Some false) (Some false)
    (Some (pos 60)) (Some (PositionIs.Degrees (pos 473500) (pos 80625) 431)) None None)
    ∷ reads "south on a zero" 3 (text "\u{2}01.01.24; 1; 13:00:00; +01:00; #*     ;  0.0000S   8.0625E  431m\u{3}") 5 empty_record
    ∷ writes "buffer of 31" 1 record_a 31 10 []
    ∷ writes "buffer of 32" 1 record_a 32 0 (text "\u{2}D:01.01.24;T:1;U:12.00.00;  U \u{3}")
    ∷ writes "offset 840" 8 (with_offset (pos 840)) 100 0 (ones_at (30 ∷ 52 ∷ 56 ∷ 64 ∷ 66 ∷ 67 ∷ 68 ∷ 75 ∷ []))
    ∷ writes "offset 841" 9 (with_offset (pos 841)) 174 7 []
    ∷ writes "offset 345" 8 (with_offset (pos 345)) 100 9 []
    ∷ reads "block of 117" 9 (replicate 117 0) 2 empty_record
    ∷ reads "block of 175" 9 (replicate 175 0) 2 empty_record
    ∷ reads "form 15" 15 [] 1 empty_record
    ∷ reads "no mark at 9" 8 (set frame_l 9 1) 3 empty_record
    ∷ reads "one at 5" 8 (ones_at (5 ∷ 30 ∷ 52 ∷ 56 ∷ 75 ∷ [])) 3 empty_record
    ∷ reads "parity" 8 (ones_at (30 ∷ 52 ∷ 56 ∷ [])) 6 empty_record
    ∷ reads "TFOM 7" 8 (ones_at (30 ∷ 52 ∷ 56 ∷ 71 ∷ 72 ∷ 73 ∷ [])) 4 empty_record
    ∷ reads "leap deletion" 8 (ones_at (30 ∷ 52 ∷ 56 ∷ 61 ∷ [])) 4 empty_record
    ∷ reads "digit 10" 8 (ones_at (2 ∷ 4 ∷ 30 ∷ 52 ∷ 56 ∷ 75 ∷ [])) 4 empty_record
    ∷ reads "sign 1 on a zero" 8 (ones_at (30 ∷ 52 ∷ 56 ∷ 64 ∷ [])) 5 empty_record
    ∷ reads "seconds of the day" 8 (ones_at (30 ∷ 52 ∷ 56 ∷ 75 ∷ 80 ∷ [])) 5 empty_record
    ∷ []

-- a record with all that the writer of form 10 asks for, and this sync: it asks for neither fix nor leap
abbrev pub record_sat : Option Bool → Record
record_sat sync = standard_of (Some (DateIs.Full 24 1 1)) 12 0 0 sync None (Some true) (Some false) (Some false) None

-- form 10: the words of document 004 and no others, the weekday, and what the writer asks for
abbrev pub sat_cases : List Case
sat_cases =
    reads "CET" 10 (text "\u{2}01.01.24/1/12:00:00CET #!\r\n\u{3}") 0 (standard_of (Some (DateIs.Full 24 1 1)) 12 0 0 (Some false) None (Some false) (Some false) (Some true) None)
    ∷ reads "CEST" 10 (text "\u{2}01.07.24/1/23:59:60CEST  \r\n\u{3}") 0 (standard_of (Some (DateIs.Full 24 7 1)) 23 59 60 (Some true) None (Some false) (Some true) (Some false) None)
    ∷ reads "MEZ" 10 (text "\u{2}01.01.24/1/12:00:00MEZ   \r\n\u{3}") 3 empty_record
    ∷ reads "UTC behind a space" 10 (text "\u{2}01.01.24/1/12:00:00 UTC  \r\n\u{3}") 3 empty_record
    ∷ reads "weekday 8" 10 (text "\u{2}01.01.24/8/12:00:00UTC   \r\n\u{3}") 4 empty_record
    ∷ reads "weekday 2" 10 (text "\u{2}01.01.24/2/12:00:00UTC   \r\n\u{3}") 5 empty_record
    ∷ writes "UTC" 10 (record_sat (Some true)) 29 0 (text "\u{2}01.01.24/1/12:00:00UTC   \r\n\u{3}")
    ∷ writes "without sync" 10 (record_sat None) 29 8 []
    ∷ writes "buffer of 28" 10 (record_sat (Some true)) 28 10 []
    ∷ []

-- a frame's record with this date, and all else as in L
abbrev pub framed_on : ℕ → ℕ → ℕ → Record
framed_on y m d = framed_of (Some (DateIs.Full y m d)) 0 0 0 (Some true) (Some false) (Some (pos 0)) (Some false) (Some false)

-- W-202: the way back from a year and a day of year, in leap years and others
abbrev pub calendar_cases : List Case
calendar_cases =
    reads "day 60 of 2024" 8 (ones_at (36 ∷ 37 ∷ 52 ∷ 56 ∷ [])) 0 (framed_on 24 2 29)
    ∷ reads "day 60 of 2023" 8 (ones_at (36 ∷ 37 ∷ 50 ∷ 51 ∷ 56 ∷ 75 ∷ [])) 0 (framed_on 23 3 1)
    ∷ reads "day 366 of 2024" 8 (ones_at (31 ∷ 32 ∷ 36 ∷ 37 ∷ 40 ∷ 41 ∷ 52 ∷ 56 ∷ [])) 0 (framed_on 24 12 31)
    ∷ reads "day 366 of 2023" 8 (ones_at (31 ∷ 32 ∷ 36 ∷ 37 ∷ 40 ∷ 41 ∷ 50 ∷ 51 ∷ 56 ∷ 75 ∷ [])) 4 empty_record
    ∷ reads "day 0 of 2024" 8 (ones_at (52 ∷ 56 ∷ [])) 4 empty_record
    ∷ reads "day 1 of 2000" 8 (ones_at (30 ∷ 75 ∷ [])) 0 (framed_on 0 1 1)
    ∷ reads "day 365 of 1999" 8 (ones_at (30 ∷ 32 ∷ 36 ∷ 37 ∷ 40 ∷ 41 ∷ 50 ∷ 53 ∷ 55 ∷ 58 ∷ [])) 0 (framed_on 99 12 31)
    ∷ writes "1 March 2023" 6 (synced_of (Some (DateIs.Full 23 3 1)) 0 0 0 (Some true)) 16 0 (text "\u{1}060:00:00:00 \r\n")
    ∷ writes "1 March 2024" 6 (synced_of (Some (DateIs.Full 24 3 1)) 0 0 0 (Some true)) 16 0 (text "\u{1}061:00:00:00 \r\n")
    ∷ reads "Friday, 31 December 1999" 10 (text "\u{2}31.12.99/5/00:00:00UTC   \r\n\u{3}") 0
    (standard_of (Some (DateIs.Full 99 12 31)) 0 0 0 (Some true) None (Some true) (Some false) (Some false) None)
    ∷ []

-- W-203: "sign 1 for an offset above zero, 0 for zero or below"; in form 11 "the sign as 01 had it"; "sign 1 on a zero stays 5, and 9 reads as
-- for form 8, in both"
abbrev pub sign_cases : List Case
sign_cases =
    writes "UTC+1" 8 (with_offset (pos 60)) 100 0 (ones_at (30 ∷ 52 ∷ 56 ∷ 64 ∷ 65 ∷ 75 ∷ []))
    ∷ writes "UTC+1" 11 (with_offset (pos 60)) 100 0 (ones_at (30 ∷ 52 ∷ 56 ∷ 65 ∷ []))
    ∷ writes "UTC-1" 8 (with_offset (negsuc 59)) 100 0 (ones_at (30 ∷ 52 ∷ 56 ∷ 65 ∷ []))
    ∷ writes "UTC-1" 11 (with_offset (negsuc 59)) 100 0 (ones_at (30 ∷ 52 ∷ 56 ∷ 64 ∷ 65 ∷ 75 ∷ []))
    ∷ reads "kept from before" 11 (ones_at (30 ∷ 52 ∷ 56 ∷ 66 ∷ 67 ∷ 68 ∷ [])) 0 (with_offset (pos 840))
    ∷ reads "the same in form 8" 8 (ones_at (30 ∷ 52 ∷ 56 ∷ 66 ∷ 67 ∷ 68 ∷ [])) 0 (with_offset (negsuc 839))
    ∷ writes "L" 11 record_l 100 0 frame_l
    ∷ reads "L" 11 frame_l 0 record_l
    ∷ reads "sign 1 on a zero" 11 (ones_at (30 ∷ 52 ∷ 56 ∷ 64 ∷ [])) 5 empty_record
    ∷ writes "offset 345" 11 (with_offset (pos 345)) 100 9 []
    ∷ []

-- the tabled claim
pub record Bench : Type 0 where
  pub cases_hold : Holds cases
  pub known_hold : Holds known
  pub further_hold : Holds further
  pub sat_hold : Holds sat_cases
  pub calendar_hold : Holds calendar_cases
  pub sign_hold : Holds sign_cases
  pub rmc_hold : Holds rmc_cases
  pub kind_hold : Holds kind_cases
  pub year_hold : Holds year_cases
