-- What the calendar answers to C, and the number afterwards.
use Rattle.std.specs.Prelude.{◌≡◌, ℕ, Option}
use Rattle.calendar.specs.Answers.{day_refusal, day_value}

-- the number of the calendar's answer; where there is none, refusal 4 and the number 0
pub record NumberedAs (answered : Option ℕ) (n number' : ℕ) : Type 0 where
  pub answer : n ≡ day_refusal answered
  pub number : number' ≡ day_value answered
