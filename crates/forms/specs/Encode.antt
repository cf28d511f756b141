-- What each slot tells of a record.
use Rattle.std.specs.Prelude.{◌+◌, ◌*◌, ◌/◌, ◌%◌, eqb}
use Rattle.cond.specs.Pick.{one_if, pick}
use Rattle.calendar.specs.Calendar.{weekday_of}
use Rattle.record.specs.Record.{is_yes}
use Rattle.record.specs.declared.Record.{Record}
use Rattle.forms.specs.Fields.Channel.{encode_channel}
use Rattle.forms.specs.Fields.Date.{encode_day, encode_month, encode_ordinal, encode_year}
use Rattle.forms.specs.Fields.Fraction.{encode_hundredths, encode_ten_millionths, encode_thousandths}
use Rattle.forms.specs.Fields.Offset.{half_hour_of, encode_minus, encode_minutes, opposite}
use Rattle.forms.specs.Fields.Position.{degrees, encode_altitude, encode_latitude, encode_longitude, encode_south, encode_west, minutes}
use Rattle.forms.specs.Fields.Time.{seconds_of_day}
use Rattle.forms.specs.Slots.{Values, altitude, change, channel, checksum, day, day_seconds, deletion, dsp, fix, half_hour, hour, hundredth}
use Rattle.forms.specs.Slots.{latitude_degrees, latitude_hundredth, latitude_minute, latitude_part, latitude_whole, leap, leap_second}
use Rattle.forms.specs.Slots.{longitude_degrees, longitude_hundredth, longitude_minute, longitude_part, longitude_whole, lsp, minus, minute}
use Rattle.forms.specs.Slots.{month, notice, offset_hours, offset_minutes, ordinal, plus, quality, second, south, summer, sync, ten_millionth}
use Rattle.forms.specs.Slots.{thousandth, utc, weekday, west, year, zone}

-- the values of a record; "weekday and the leap letter are not fields: they follow from the date and from second 60"
abbrev pub encode : Record → Values
encode r hour = r.hour
encode r minute = r.minute
encode r second = r.second
encode r year = encode_year r.date
encode r month = encode_month r.date
encode r day = encode_day r.date
encode r ordinal = encode_ordinal r.date
encode r weekday = weekday_of (encode_year r.date) (encode_month r.date) (encode_day r.date)
encode r leap_second = one_if (eqb r.second 60)
encode r thousandth = encode_thousandths r.fraction
encode r ten_millionth = encode_ten_millionths r.fraction
encode r hundredth = encode_hundredths r.fraction
encode r channel = encode_channel r.channel
encode r sync = one_if (is_yes r.sync)
-- "TFOM is 0 for sync yes, 15 for no"
encode r quality = pick (is_yes r.sync) 0 15
encode r fix = one_if (is_yes r.fix)
encode r zone = one_if (is_yes r.utc) * 2 + one_if (is_yes r.summer)
encode r utc = one_if (is_yes r.utc)
encode r summer = one_if (is_yes r.summer)
encode r notice = one_if (is_yes r.change) * 2 + one_if (is_yes r.leap)
encode r change = one_if (is_yes r.change)
encode r leap = one_if (is_yes r.leap)
encode r minus = encode_minus r.offset
-- W-203 "sign 1 for an offset above zero, 0 for zero or below"
encode r plus = encode_minus (opposite r.offset)
encode r offset_hours = encode_minutes r.offset / 60
encode r offset_minutes = encode_minutes r.offset % 60
encode r half_hour = half_hour_of (encode_minutes r.offset % 60)
encode r south = encode_south r.position
encode r latitude_degrees = encode_latitude degrees r.position / 10000
encode r latitude_part = encode_latitude degrees r.position % 10000
encode r latitude_whole = encode_latitude minutes r.position / 6000
encode r latitude_minute = encode_latitude minutes r.position % 6000 / 100
encode r latitude_hundredth = encode_latitude minutes r.position % 100
encode r west = encode_west r.position
encode r longitude_degrees = encode_longitude degrees r.position / 10000
encode r longitude_part = encode_longitude degrees r.position % 10000
encode r longitude_whole = encode_longitude minutes r.position / 6000
encode r longitude_minute = encode_longitude minutes r.position % 6000 / 100
encode r longitude_hundredth = encode_longitude minutes r.position % 100
encode r altitude = encode_altitude r.position
encode r dsp = one_if (is_yes r.dsp)
encode r lsp = one_if (is_yes r.lsp)
-- "Element 61 must be 0"
encode r deletion = 0
encode r day_seconds = seconds_of_day r.hour r.minute r.second
encode r checksum = 0
