use Rattle.cond.proofs.Kit.{◌∙◌, arith, refl}
use Rattle.spelling.proofs.Steps.{more_behind, none_behind, one_behind}
use Rattle.spelling.proofs.padding.are_padded.Goals as goal

pub returns-in-empty : goal.returns-in-empty
returns-in-empty c = none_behind _ _ c.leading_spaces.ensures.value c.in-empty.len_below

pub returns-in-len1 : goal.returns-in-len1
returns-in-len1 c = c.is_digit.ensures ∙ one_behind _ _ c.leading_spaces.ensures.value (omega arith)

pub returns-in-len1-up : goal.returns-in-len1-up
returns-in-len1-up c = more_behind _ _ c.leading_spaces.ensures.value _ _ refl c.are_digits.ensures c.in-len1-up.len_at_least
