-- Inner: the lines of the yes or no fields.
use Rattle.std.specs.Prelude.{List, ℕ, ◌+◌, length, Option, None, Some, Bool, true, false}
use Rattle.cond.specs.Pick.{pick}
use Rattle.spelling.specs.Bytes.{text}
use Rattle.record.specs.declared.Record.{Record}
use Rattle.forms.specs.Places.{shape}
use Rattle.forms.specs.Slots.{Slot, change, dsp, fix, leap, lsp, same, summer, sync, utc}
use Rattle.block_lines.specs.Reading.{word_layout}
use Rattle.block_lines.specs.declared.flag.Flag.{Flag}
use Rattle.block_lines.specs.declared.flag.Flag.TheVariants as flag
use Rattle.block_lines.specs.declared.state.State.{State}

-- the slot of a yes or no field
abbrev pub flag_slot : Flag → Slot
flag_slot flag.Sync = sync
flag_slot flag.Fix = fix
flag_slot flag.Utc = utc
flag_slot flag.Summer = summer
flag_slot flag.Change = change
flag_slot flag.Leap = leap
flag_slot flag.Dsp = dsp
flag_slot flag.Lsp = lsp

-- the field of a slot
unfoldable pub flag_in : Slot → Record → Option Bool
flag_in f r =
    pick (same f sync) r.sync
    (pick (same f fix) r.fix
    (pick (same f utc) r.utc
    (pick (same f summer) r.summer
    (pick (same f change) r.change (pick (same f leap) r.leap (pick (same f dsp) r.dsp r.lsp))))))

-- the record with this field
unfoldable pub with_flag : Slot → Option Bool → Record → Record
with_flag f x r =
    record {
      hour = r.hour;
      minute = r.minute;
      second = r.second;
      date = r.date;
      fraction = r.fraction;
      channel = r.channel;
      sync = pick (same f sync) x r.sync;
      fix = pick (same f fix) x r.fix;
      utc = pick (same f utc) x r.utc;
      summer = pick (same f summer) x r.summer;
      change = pick (same f change) x r.change;
      leap = pick (same f leap) x r.leap;
      offset = r.offset;
      position = r.position;
      dsp = pick (same f dsp) x r.dsp;
      lsp = pick (same f lsp) x r.lsp;
    }

-- what is told so far, and this field
abbrev pub flag_decoded : Slot → Option Bool → State → State
flag_decoded f x b = record { known = with_flag f x b.known; minutes = b.minutes; zone = b.zone; place = b.place; arc = b.arc }

-- "(`yes`/`no`)", "`-` is absent", by the key
unfoldable pub flag_read : List ℕ → Slot → List ℕ → State → Option (ℕ × State)
flag_read key f s b =
    pick (shape (word_layout key (text "-")) 0 s) (Some (length key + 2, b))
    (pick (shape (word_layout key (text "no")) 0 s) (Some (length key + 3, flag_decoded f (Some false) b))
    (pick (shape (word_layout key (text "yes")) 0 s) (Some (length key + 4, flag_decoded f (Some true) b)) None))
