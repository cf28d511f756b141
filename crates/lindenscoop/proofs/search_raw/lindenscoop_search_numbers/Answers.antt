-- A buffer that is too short is refused; else the place and the record are those of the search.
use Rattle.record.specs.Answers.{number_in}
use Rattle.cond.proofs.Kit.{◌∙◌, ap, sym}
use Rattle.search.specs.Answer.{finding_place, finding_record}
use Rattle.lindenscoop.specs.Buffers.{shown}
use Rattle.lindenscoop.proofs.Room.{shown_by}
use Rattle.lindenscoop.proofs.search_raw.lindenscoop_search_numbers.Goals as goal

pub returns-in-Ok : goal.returns-in-Ok
returns-in-Ok c = let r = c.args.numbers.now in
    let t = sym c.record_fits.ensures ∙ c.if-not-record_fits.false in
    let found = sym c.in-Ok.is ∙ c.search.ensures in
    let numbers = shown_by c.put_record.ensures t ∙ ap (λ x. shown (finding_record x) r) found in
    record { number = rw t (ap number_in found); place = rw t (ap finding_place found); numbers = rw t numbers }

pub returns-in-Err : goal.returns-in-Err
returns-in-Err c = let r = c.args.numbers.now in
    let t = sym c.record_fits.ensures ∙ c.if-not-record_fits.false in
    let none = sym c.in-Err.is ∙ c.search.ensures in
    let empty = rw c.empty.ensures at c.put_record-in-Err.ensures in
    let numbers = shown_by empty t ∙ ap (λ x. shown (finding_record x) r) none in
    record { number = rw t (c.from.ensures ∙ ap number_in none); place = rw t (ap finding_place none); numbers = rw t numbers }
