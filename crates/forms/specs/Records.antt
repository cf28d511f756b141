-- The records of the known strings: each form's fields in their order, all else absent.
use Rattle.std.specs.Prelude.{ℕ, Option, None, Bool, ℤ}
use Rattle.record.specs.declared.Date.{Date}
use Rattle.record.specs.declared.Fraction.{Fraction}
use Rattle.record.specs.declared.Position.{Position}
use Rattle.record.specs.declared.Record.{Record}

-- a record, its fields in the order of the block's lines
abbrev pub fields : Option Date → ℕ → ℕ → ℕ → Option Fraction → Option ℕ → Option Bool → Option Bool → Option Bool → Option Bool → Option Bool → Option Bool → Option ℤ → Option Position → Option Bool → Option Bool → Record
fields d h m s f c sy fi u su ch le o p ds ls =
    record {
      hour = h;
      minute = m;
      second = s;
      date = d;
      fraction = f;
      channel = c;
      sync = sy;
      fix = fi;
      utc = u;
      summer = su;
      change = ch;
      leap = le;
      offset = o;
      position = p;
      dsp = ds;
      lsp = ls;
    }

-- the record of a form that carries the date, sync, fix, utc, summer, change and leap
abbrev pub standard_of : Option Date → ℕ → ℕ → ℕ → Option Bool → Option Bool → Option Bool → Option Bool → Option Bool → Option Bool → Record
standard_of d h m s sy fi u su ch le =
    fields d h m s None None sy fi u su ch le None None None None

-- the record of a form that carries the date and sync, or the date alone
abbrev pub synced_of : Option Date → ℕ → ℕ → ℕ → Option Bool → Record
synced_of d h m s sy = standard_of d h m s sy None None None None None

-- the record of a form that carries the date, a fraction and a channel
abbrev pub split_of : Option Date → ℕ → ℕ → ℕ → Option Fraction → Option ℕ → Record
split_of d h m s f c = fields d h m s f c None None None None None None None None None None

-- the record of a form that carries the date, a fraction, sync and a position
abbrev pub placed_of : Option Date → ℕ → ℕ → ℕ → Option Fraction → Option Bool → Option Position → Record
placed_of d h m s f sy p = fields d h m s f None sy None None None None None None p None None

-- the record of a frame
abbrev pub framed_of : Option Date → ℕ → ℕ → ℕ → Option Bool → Option Bool → Option ℤ → Option Bool → Option Bool → Record
framed_of d h m s sy su o ds ls =
    fields d h m s None None sy None None su None None o None ds ls
