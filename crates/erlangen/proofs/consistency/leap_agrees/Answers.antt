-- The letter tested is the one that the second asks for.
use Rattle.cond.proofs.Kit.{◌∙◌, sym}
use Rattle.forms.specs.Places.{values}
use Rattle.erlangen.proofs.Form.{leap_letter, plain_letter}
use Rattle.erlangen.proofs.consistency.leap_agrees.Goals as goal

pub returns-then-number_at-eq60 : goal.returns-then-number_at-eq60
unfolding values
returns-then-number_at-eq60 c = c.is_at.ensures ∙ sym (leap_letter c.args.s.now c.requires (sym c.number_at.ensures.0 ∙ c.if-number_at-eq60.true))

pub returns-else-number_at-eq60 : goal.returns-else-number_at-eq60
unfolding values
returns-else-number_at-eq60 c = c.is_at-else-number_at-eq60.ensures ∙ sym (plain_letter c.args.s.now c.requires (λ e. c.if-number_at-eq60.false (c.number_at.ensures.0 ∙ e)))
