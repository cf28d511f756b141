-- What is stored of an answer is stored of every answer that is the same.
use Rattle.std.specs.Prelude.{Option}
use Rattle.cond.proofs.Kit.{◌∙◌, ◌≡◌, ap, ℕ}
use Rattle.calendar.specs.Answers.{day_refusal, day_value}
use Rattle.lindenscoop.specs.Calendar.{NumberedAs}

pub numbered : (a b : Option ℕ) (n k : ℕ) → a ≡ b → NumberedAs a n k → NumberedAs b n k
numbered a b n k e h = record { answer = h.answer ∙ ap day_refusal e; number = h.number ∙ ap day_value e }
