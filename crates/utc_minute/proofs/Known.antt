-- The library's tables say what is read from each string; the minute of its record is computed.
use Rattle.std.specs.Prelude.{Ok}
use Rattle.cond.proofs.Kit.{[], ◌∙◌, ◌≡◌, ap, get_or, List, String, ℕ}
use Rattle.record.specs.Answers.{number_in, read_record}
use Rattle.record.specs.Record.{empty_record}
use Rattle.record.specs.declared.Record.{Record}
use Rattle.record.proofs.Answers.{accepted_read}
use Rattle.forms.specs.Case.{Case, answered, answered_all, reads}
use Rattle.forms.specs.Forms.{read_form}
use Rattle.forms.proofs.Bench.{bench}
use Rattle.utc_minute.specs.Known.{Known}
use Rattle.utc_minute.specs.Minute.{minute_in, minute_of, minute_told, utc_minute}

-- the row of a table at a place
abbrev row : ℕ → List Case → Case
row k cs = get_or cs k (reads "none" 0 [] 1 empty_record)

-- the string of a row that is accepted tells what the row's record tells
tells : {name : String} {form : ℕ} {s : List ℕ} {r : Record} → answered (reads name form s 0 r) ≡ reads name form s 0 r → minute_told form s ≡ Ok (minute_in r)
tells {name} {form} {s} {r} h =
    let number : number_in (read_form form s) ≡ 0 = cc in
    let fields : read_record (read_form form s) ≡ r = cc in
    ap minute_of (accepted_read (read_form form s) number ∙ ap Ok fields)

pub known_minutes : Known
unfolding answered_all utc_minute
known_minutes =
    record {
      behind = tells (ap (row 2) bench.known_hold);
      ahead = tells (ap (row 0) bench.further_hold);
      sent_zero = tells (ap (row 12) bench.cases_hold);
      absent = tells (ap (row 7) bench.cases_hold);
    }
