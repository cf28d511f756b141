-- The record that was handed out is stored; nothing else is.
use Rattle.std.specs.Prelude.{Ok, Some}
use Rattle.cond.proofs.Kit.{◌∙◌, ◌≡◌, ap, sym}
use Rattle.listener.specs.Listening.{answer_of}
use Rattle.lindenscoop.specs.Listener.{answer_numbers}
use Rattle.lindenscoop.proofs.Room.{shown_by}
use Rattle.lindenscoop.proofs.listener_raw.put_heard.Goals as goal

pub returns-in-Ok-Some : goal.returns-in-Ok-Some
returns-in-Ok-Some c =
    let told : c.in-Ok-Some.field-0 ≡ Some c.in-Ok-Some.told = rw c.in-Ok-Some.is at c.in-Ok-Some.field-0-is in
    shown_by c.put_record.ensures c.requires ∙ sym (ap (λ h. answer_numbers (answer_of h) c.args.numbers.now) (c.in-Ok-Some.is ∙ ap Ok told))
