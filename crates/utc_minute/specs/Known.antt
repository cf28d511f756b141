-- Strings of the library's tables, and the minutes that they tell.
use Rattle.std.specs.Prelude.{◌≡◌, None, Some, Ok}
use Rattle.spelling.specs.Bytes.{text}
use Rattle.forms.specs.Bench.{frame_l}
use Rattle.utc_minute.specs.Minute.{minute_told}

pub record Known : Type 0 where
  -- 13:56 at an offset of -03:42 is 17:38
  pub behind : minute_told 3 (text "\u{2}28.07.45; 5; 13:56:19; -03:42; # S A  ; 33.8688S 151.2093E  431m\u{3}") ≡ Ok (Some 1058)
  -- 13:00 at an offset of +01:00 is 12:00
  pub ahead : minute_told 3 (text "\u{2}01.01.24; 1; 13:00:00; +01:00; #*     ; 47.3500N   8.0625E  431m\u{3}") ≡ Ok (Some 720)
  -- 00:00 at an offset of zero, which was sent
  pub sent_zero : minute_told 8 frame_l ≡ Ok (Some 0)
  -- 00:00, and no offset was sent
  pub absent : minute_told 5 (text "XGU000229000000\r") ≡ Ok None
