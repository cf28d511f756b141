-- The serial forms: their layouts, as document 01 writes them, and document 02 from form 10 on.
use Rattle.std.specs.Prelude.{[], ◌∷◌}
use Rattle.spelling.specs.Spelling.{digits, hex, padded}
use Rattle.forms.specs.Checksum.{Checksum, exclusive_or, checksum_by}
use Rattle.forms.specs.Form.{Form}
use Rattle.forms.specs.Places.{Layout, letter, lit, one, one_of, part, two}
use Rattle.forms.specs.Slots.{altitude, change, channel, checksum, day, fix, hour, hundredth, latitude_degrees, latitude_hundredth, latitude_minute, latitude_part}
use Rattle.forms.specs.Slots.{latitude_whole, leap, leap_second, longitude_degrees, longitude_hundredth, longitude_minute, longitude_part, longitude_whole, minus, minute}
use Rattle.forms.specs.Slots.{month, notice, offset_hours, offset_minutes, ordinal, second, south, summer, sync, ten_millionth, thousandth, weekday, west, year, zone}

-- 1. `<STX>D:dd.mm.yy;T:w;U:hh.mm.ss;uvxy<ETX>`
abbrev pub standard_layout : Layout
standard_layout =
    lit "\u{2}D:" ∷ two day ∷ lit "." ∷ two month ∷ lit "." ∷ two year ∷ lit ";T:" ∷ one weekday ∷ lit ";U:"
    ∷ two hour ∷ lit "." ∷ two minute ∷ lit "." ∷ two second ∷ lit ";"
    ∷ letter sync "# " ∷ letter fix "* " ∷ letter zone " SU" ∷ letter notice " A!" ∷ lit "\u{3}" ∷ []

-- full date, sync, fix, utc, summer, change, leap
abbrev pub standard : Form
standard = record { size = 32; layout = standard_layout; checksums = [] }

-- 2. `CHx dd.mm.yy hh:mm:ss.fffffff<CR><LF>`
abbrev pub capture_layout : Layout
capture_layout =
    lit "CH" ∷ one channel ∷ lit " " ∷ two day ∷ lit "." ∷ two month ∷ lit "." ∷ two year ∷ lit " "
    ∷ two hour ∷ lit ":" ∷ two minute ∷ lit ":" ∷ two second ∷ lit "." ∷ part (digits 7) ten_millionth ∷ lit "\r\n" ∷ []

-- full date, ten-millionths, channel
abbrev pub capture : Form
capture = record { size = 31; layout = capture_layout; checksums = [] }

-- 3. `<STX>dd.mm.yy; w; hh:mm:ss; voo:oo; acdfg i;bbb.bbbbn lll.lllle hhhhm<ETX>`
abbrev pub erlangen_layout : Layout
erlangen_layout =
    lit "\u{2}" ∷ two day ∷ lit "." ∷ two month ∷ lit "." ∷ two year ∷ lit "; " ∷ one weekday ∷ lit "; "
    ∷ two hour ∷ lit ":" ∷ two minute ∷ lit ":" ∷ two second ∷ lit "; "
    ∷ letter minus "+-" ∷ two offset_hours ∷ lit ":" ∷ two offset_minutes ∷ lit "; "
    ∷ letter sync "# " ∷ letter fix "* " ∷ letter summer " S" ∷ letter change " !" ∷ letter leap " A" ∷ lit " "
    ∷ letter leap_second " L" ∷ lit ";"
    ∷ part (padded 3) latitude_degrees ∷ lit "." ∷ part (digits 4) latitude_part ∷ letter south "NS" ∷ lit " "
    ∷ part (padded 3) longitude_degrees ∷ lit "." ∷ part (digits 4) longitude_part ∷ letter west "EW" ∷ lit " "
    ∷ part (padded 4) altitude ∷ lit "m\u{3}" ∷ []

-- full date, offset, sync, fix, summer, change, leap, position
abbrev pub erlangen : Form
erlangen = record { size = 66; layout = erlangen_layout; checksums = [] }

-- 4. `>900WD:yy-mm-dd hh.mm;ss.fff:cc<CR>`, "cc is the exclusive-or of all 29 bytes before it"
abbrev pub spa_layout : Layout
spa_layout =
    lit ">900WD:" ∷ two year ∷ lit "-" ∷ two month ∷ lit "-" ∷ two day ∷ lit " "
    ∷ two hour ∷ lit "." ∷ two minute ∷ lit ";" ∷ two second ∷ lit "." ∷ part (digits 3) thousandth ∷ lit ":"
    ∷ part (hex 2) checksum ∷ lit "\r" ∷ []

abbrev pub spa_checksum : Checksum
spa_checksum = checksum_by exclusive_or 0 29

-- full date, thousandths
abbrev pub spa : Form
spa = record { size = 32; layout = spa_layout; checksums = spa_checksum ∷ [] }

-- 5. `XGUyymmddhhmmss<CR>`
abbrev pub racal_layout : Layout
racal_layout = lit "XGU" ∷ two year ∷ two month ∷ two day ∷ two hour ∷ two minute ∷ two second ∷ lit "\r" ∷ []

-- full date
abbrev pub racal : Form
racal = record { size = 16; layout = racal_layout; checksums = [] }

-- 6. `<SOH>ddd:hh:mm:ssq<CR><LF>`
abbrev pub sysplex_layout : Layout
sysplex_layout =
    lit "\u{1}" ∷ part (digits 3) ordinal ∷ lit ":" ∷ two hour ∷ lit ":" ∷ two minute ∷ lit ":" ∷ two second
    ∷ letter sync "? " ∷ lit "\r\n" ∷ []

-- day of year, sync
abbrev pub sysplex : Form
sysplex = record { size = 16; layout = sysplex_layout; checksums = [] }

-- 7. `T:yy:mm:dd:ww:hh:mm:ss<CR><LF>`
abbrev pub computime_layout : Layout
computime_layout =
    lit "T:" ∷ two year ∷ lit ":" ∷ two month ∷ lit ":" ∷ two day ∷ lit ":" ∷ two weekday ∷ lit ":"
    ∷ two hour ∷ lit ":" ∷ two minute ∷ lit ":" ∷ two second ∷ lit "\r\n" ∷ []

-- full date
abbrev pub computime : Form
computime = record { size = 24; layout = computime_layout; checksums = [] }

-- 10. `<STX>dd.mm.yy/w/hh:mm:ssxxxxuv<CR><LF><ETX>`, "its zone filled up to four letters with spaces behind"; "the letters of document 004 decide":
-- `UTC`, `CET` and `CEST`, of sync and fix u tells sync
abbrev pub sat_layout : Layout
sat_layout =
    lit "\u{2}" ∷ two day ∷ lit "." ∷ two month ∷ lit "." ∷ two year ∷ lit "/" ∷ one weekday ∷ lit "/"
    ∷ two hour ∷ lit ":" ∷ two minute ∷ lit ":" ∷ two second
    ∷ one_of zone 4 ("CET " ∷ "CEST" ∷ "UTC " ∷ []) ∷ letter sync "# " ∷ letter change " !" ∷ lit "\r\n\u{3}" ∷ []

-- "full date, utc and summer by the zone, change by v, and by u the one of sync and fix that the manual's table names"
abbrev pub sat : Form
sat = record { size = 29; layout = sat_layout; checksums = [] }

-- 12. document 002, 6.3.6: `$GPRMC,hhmmss.ss,A,bbbb.bb,n,lllll.ll,e,0.0,0.0,ddmmyy,0.0,E*hh<CR><LF>`; "Longitude has five digits before the point,
-- which makes the 65, and leading zeros stay. The zeros for speed, course and variation are fixed bytes, the variation letter is `E`.";
-- "status becomes sync", of which document 002 has "A = time data valid" and "V = time data not valid"
abbrev pub rmc_layout : Layout
rmc_layout =
    lit "$GPRMC," ∷ two hour ∷ two minute ∷ two second ∷ lit "." ∷ two hundredth ∷ lit "," ∷ letter sync "VA" ∷ lit ","
    ∷ two latitude_whole ∷ two latitude_minute ∷ lit "." ∷ two latitude_hundredth ∷ lit "," ∷ letter south "NS" ∷ lit ","
    ∷ part (digits 3) longitude_whole ∷ two longitude_minute ∷ lit "." ∷ two longitude_hundredth ∷ lit "," ∷ letter west "EW"
    ∷ lit ",0.0,0.0," ∷ two day ∷ two month ∷ two year ∷ lit ",0.0,E*" ∷ part (hex 2) checksum ∷ lit "\r\n" ∷ []

-- "the NMEA exclusive-or of the bytes between `$` and `*`, digits as in form 4"
abbrev pub rmc_checksum : Checksum
rmc_checksum = checksum_by exclusive_or 1 59

-- "time with hundredths, status, position in degrees and minutes with hundredths, date"
abbrev pub rmc : Form
rmc = record { size = 65; layout = rmc_layout; checksums = rmc_checksum ∷ [] }
