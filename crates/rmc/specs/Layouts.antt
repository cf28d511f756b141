-- Inner: the RMC layout in pieces, as the reader tests and the writer stores it.
use Rattle.std.specs.Prelude.{take, drop}
use Rattle.forms.specs.Places.{Layout}
use Rattle.forms.specs.Serial.{rmc_layout}

-- `$GPRMC,hhmmss.ss,A,`
abbrev pub time_layout : Layout
time_layout = take 9 rmc_layout

-- `bbbb.bb,n,`
abbrev pub latitude_layout : Layout
latitude_layout = take 7 (drop 9 rmc_layout)

-- `lllll.ll,e`
abbrev pub longitude_layout : Layout
longitude_layout = take 6 (drop 16 rmc_layout)

-- `,0.0,0.0,ddmmyy,0.0,E*`
abbrev pub date_layout : Layout
date_layout = take 5 (drop 22 rmc_layout)

-- all in front of the sum
abbrev pub front_layout : Layout
front_layout = take 27 rmc_layout
