-- The rows of the bench are computed.
use mathlib.Core.Path.{refl}
use Rattle.calendar.specs.Answers.{date_searched}
use Rattle.calendar.specs.Calendar.{day_number, day_of_year, days_through, first_day, is_date, is_leap, is_month, length_at, month_days, month_length, weekday_of}
use Rattle.spelling.specs.Bytes.{all_are, are_groups, are_padded, bits_number, bits_of, blanked, digits_below, groups_limit, groups_number, groups_of, groups_width}
use Rattle.spelling.specs.Bytes.{is_word, letters, number_in, ones, same_bytes, spelled_in, word_place, xor_from}
use Rattle.spelling.specs.Spelling.{is_spelled, value_of}
use Rattle.record.specs.Record.{channel_in_range, date_in_range, fraction_in_range, in_range, is_good, offset_in_range, position_in_range, time_in_range, zone_agrees}
use Rattle.forms.specs.Bench.{Bench}
use Rattle.forms.specs.Block.{block_of, chosen_layout, variant_at, read_block, layout_at}
use Rattle.forms.specs.Carries.{carries_of}
use Rattle.forms.specs.Case.{answered_all, elements_from}
use Rattle.forms.specs.Checksum.{checksums_hold}
use Rattle.forms.specs.Decode.{decode_channel, decode_date, decode_flag, decode_fraction, decode_minutes, decode_offset, decode_position}
use Rattle.forms.specs.Fields.Date.{weekday_in_range, weekday_consistent}
use Rattle.forms.specs.Fields.Offset.{half_hour_of}
use Rattle.forms.specs.Fields.Sign.{sign_consistent}
use Rattle.forms.specs.Fields.Time.{leap_consistent, seconds_consistent}
use Rattle.forms.specs.Form.{bytes_by, is_expressible, validated, left_by, numbers_in_range, ranges, read_by, read_layout, signs_consistent, consistent, write_by}
use Rattle.forms.specs.Forms.{form_kind_of, left_as, left_form, read_as, read_form, write_as, write_form}
use Rattle.forms.specs.Required.{has_carried}
use Rattle.forms.specs.Places.{has_words, bytes_of, has, layout_width, shape, values}

pub bench : Bench
unfolding date_searched day_number day_of_year days_through first_day is_date is_leap is_month length_at month_days month_length weekday_of all_are are_groups
    are_padded bits_number bits_of blanked digits_below groups_limit groups_number groups_of groups_width is_spelled is_word letters number_in ones same_bytes spelled_in value_of word_place
    xor_from channel_in_range date_in_range fraction_in_range in_range is_good offset_in_range position_in_range time_in_range zone_agrees block_of chosen_layout variant_at
    read_block layout_at carries_of bytes_by validated leap_consistent left_by numbers_in_range ranges read_by read_layout seconds_consistent sign_consistent signs_consistent checksums_hold consistent
    weekday_in_range weekday_consistent write_by is_expressible form_kind_of left_as left_form read_as read_form write_as write_form has_carried has_words bytes_of has layout_width
    shape values decode_channel decode_date decode_flag decode_fraction decode_minutes decode_offset decode_position half_hour_of elements_from answered_all
bench = record { cases_hold = refl; known_hold = refl; further_hold = refl; sat_hold = refl; calendar_hold = refl; sign_hold = refl; rmc_hold = refl; kind_hold = refl; year_hold = refl }
