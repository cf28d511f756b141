-- W-207: a night of two racks in one table, call by call.
use Rattle.std.specs.Prelude.{List, [], ◌∷◌, map, ◌++◌, ◌≡◌, ℕ, replicate, Option, Some, true}
use Rattle.record.specs.Record.{empty_record}
use Rattle.record.specs.declared.Date.{Date}
use Rattle.record.specs.declared.Date.TheVariants as DateIs
use Rattle.record.specs.declared.Record.{Record}
use Rattle.runs.specs.declared.second.Second.{Second}
use Rattle.runs.specs.Cases.{at}
use Rattle.racks.specs.declared.Row.{Row}
use Rattle.racks.specs.Calls.{Call, after_all, answers, call, empty, in_use}
use Rattle.record.specs.Answers.{number_in}
use Rattle.racks.specs.Rows.{no_row}

-- a good record of a date and a time
abbrev pub record_at : Option Date → ℕ → ℕ → ℕ → Record
record_at d h m s = record {
  hour = h;
  minute = m;
  second = s;
  date = d;
  fraction = empty_record.fraction;
  channel = empty_record.channel;
  sync = Some true;
  fix = empty_record.fix;
  utc = empty_record.utc;
  summer = empty_record.summer;
  change = empty_record.change;
  leap = empty_record.leap;
  offset = empty_record.offset;
  position = empty_record.position;
  dsp = empty_record.dsp;
  lsp = empty_record.lsp;
}

abbrev row : ℕ → Second → Second → ℕ → Row
row k a b n = record { rack = k; run = record { first = a; last = b; count = n } }

-- the night of the leap second of 2016: rack 0 hears it, rack 1 leaves it out; a rack 2, a record without a full date, one of no such date and a repeat are among them
abbrev pub night : List Call
night =
    call 0 (record_at (Some (DateIs.Full 16 12 31)) 23 59 59)
    ∷ call 1 (record_at (Some (DateIs.Full 16 12 31)) 23 59 58)
    ∷ call 0 (record_at (Some (DateIs.Full 16 12 31)) 23 59 60)
    ∷ call 2 (record_at (Some (DateIs.Full 16 12 31)) 23 59 60)
    ∷ call 1 (record_at (Some (DateIs.Full 16 12 31)) 23 59 59)
    ∷ call 1 (record_at (Some (DateIs.DayOfYear 1)) 0 0 0)
    ∷ call 0 (record_at (Some (DateIs.Full 17 1 1)) 0 0 0)
    ∷ call 0 (record_at (Some (DateIs.Full 17 2 29)) 0 0 1)
    ∷ call 1 (record_at (Some (DateIs.Full 17 1 1)) 0 0 0)
    ∷ call 0 (record_at (Some (DateIs.Full 17 1 1)) 0 0 2)
    ∷ call 1 (record_at (Some (DateIs.Full 17 1 1)) 0 0 1)
    ∷ call 1 (record_at (Some (DateIs.Full 17 1 1)) 0 0 1)
    ∷ []

-- 33 records of one rack that follow none of one another, and one of the other rack
abbrev minutes : ℕ → List ℕ → List Call
minutes k ms = map (λ m. call k (record_at (Some (DateIs.Full 24 2 29)) 12 m 0)) ms

abbrev pub full : List Call
full =
    minutes 0 (0 ∷ 1 ∷ 2 ∷ 3 ∷ 4 ∷ 5 ∷ 6 ∷ 7 ∷ 8 ∷ 9 ∷ 10 ∷ 11 ∷ 12 ∷ 13 ∷ 14 ∷ 15 ∷ 16 ∷ 17 ∷ 18 ∷ 19 ∷ 20 ∷ 21 ∷ 22 ∷ 23 ∷ 24 ∷ 25 ∷ 26 ∷ 27 ∷ 28 ∷ 29 ∷ 30 ∷ 31 ∷ 32 ∷ [])
    ++ minutes 1 (32 ∷ [])

abbrev pub table : List Row
table = replicate 64 no_row

pub record Cases : Type 0 where
  pub numbers : map number_in (answers (empty table) night) ≡ 0 ∷ 0 ∷ 0 ∷ 16 ∷ 0 ∷ 14 ∷ 0 ∷ 14 ∷ 0 ∷ 0 ∷ 0 ∷ 0 ∷ []
  pub rows : in_use (after_all (empty table) night)
      ≡ row 0 (at 16 12 31 23 59 59) (at 17 1 1 0 0 0) 3 ∷ row 1 (at 16 12 31 23 59 58) (at 17 1 1 0 0 1) 4 ∷ row 0 (at 17 1 1 0 0 2) (at 17 1 1 0 0 2) 1 ∷ row 1 (at 17 1 1 0 0 1) (at 17 1 1 0 0 1) 1 ∷ []
  -- "Each rack may open 32"
  pub rack_full : map number_in (answers (empty table) full) ≡ replicate 32 0 ++ (15 ∷ 0 ∷ [])
