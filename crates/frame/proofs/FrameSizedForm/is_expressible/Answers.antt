-- The half hour alone may have no element.
use Rattle.cond.proofs.Kit.{◌∙◌, ap, ltb, sym, ℕ}
use Rattle.forms.proofs.Frames.{frame_has_words}
use Rattle.frame.proofs.FrameSizedForm.is_expressible.Goals as goal

pub returns : goal.returns
returns c good = ap (λ (n : ℕ). ltb n 2) c.half_hour_of.ensures ∙ sym (frame_has_words c.args.self.now.rule c.args.told)
