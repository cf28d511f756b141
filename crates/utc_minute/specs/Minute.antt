-- The minute of the day by UTC that a telegram tells: what the contract of `minute_told` says.
use Rattle.record.specs.declared.refusal.Refusal.{Refusal}
use Rattle.std.specs.Prelude.{List, ℕ, ◌+◌, ◌*◌, ◌-◌, ◌%◌, ℤ, nat_abs, Option, None, Some, Result, Ok, Err}
use Rattle.cond.specs.Pick.{pick}
use Rattle.record.specs.Sign.{is_negative}
use Rattle.record.specs.declared.Record.{Record}
use Rattle.forms.specs.Forms.{read_form}

-- the minute by UTC of a local minute, modulo a day; the offset is "minutes of local time minus UTC, -840..840"
unfoldable pub utc_minute : ℕ → ℤ → ℕ
utc_minute local z = pick (is_negative z) (local + nat_abs z) (local + (1440 - nat_abs z)) % 1440

-- by the offset that was sent, or absent like it
abbrev pub minute_by : ℕ → Option ℤ → Option ℕ
minute_by local None = None
minute_by local (Some z) = Some (utc_minute local z)

-- what a record tells
abbrev pub minute_in : Record → Option ℕ
minute_in r = minute_by (r.hour * 60 + r.minute) r.offset

-- what a reader's answer tells: a refusal is handed on
abbrev pub minute_of : Result Record Refusal → Result (Option ℕ) Refusal
minute_of (Ok r) = Ok (minute_in r)
minute_of (Err why) = Err why

-- what the bytes tell, read as the library defines it
abbrev pub minute_told : ℕ → List ℕ → Result (Option ℕ) Refusal
minute_told form telegram = minute_of (read_form form telegram)
