-- Inner: the Uni Erlangen layout in pieces, as the reader tests and the writer stores it.
use Rattle.std.specs.Prelude.{take, drop}
use Rattle.forms.specs.Places.{Layout}
use Rattle.forms.specs.Serial.{erlangen_layout}

-- `<STX>dd.mm.yy; w; `
abbrev pub date_layout : Layout
date_layout = take 9 erlangen_layout

-- `hh:mm:ss; `
abbrev pub time_layout : Layout
time_layout = take 6 (drop 9 erlangen_layout)

-- `voo:oo; `
abbrev pub offset_layout : Layout
offset_layout = take 5 (drop 15 erlangen_layout)

-- `acdfg`
abbrev pub flags_layout : Layout
flags_layout = take 5 (drop 20 erlangen_layout)

-- ` i;`
abbrev pub leap_layout : Layout
leap_layout = take 3 (drop 25 erlangen_layout)

-- `bbb.bbbbn lll.lllle hhhhm<ETX>`
abbrev pub position_layout : Layout
position_layout = drop 28 erlangen_layout

-- `bbb.bbbbn `
abbrev pub latitude_layout : Layout
latitude_layout = take 5 position_layout

-- `lll.lllle `
abbrev pub longitude_layout : Layout
longitude_layout = take 5 (drop 5 position_layout)

-- `hhhhm<ETX>`
abbrev pub altitude_layout : Layout
altitude_layout = drop 10 position_layout
