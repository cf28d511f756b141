-- The layout carries the full date, sync, summer, the offset, dsp and lsp.
use Rattle.cond.proofs.Kit.{and_assoc}
use Rattle.forms.specs.Carries.{carries_of}
use Rattle.forms.specs.Required.{has_carried}
use Rattle.forms.specs.Places.{has}
use Rattle.frame.proofs.Form.{carried_by}
use Rattle.frame.proofs.FrameSizedForm.has_carried.Goals as goal

pub returns : goal.returns
unfolding has_carried carries_of has
returns c = simp and_assoc
    (simp (c.has_full_date.ensures, c.has_flag.ensures, c.has_flag-2.ensures)
    (simp (c.has_offset.ensures, c.has_flag-3.ensures, c.has_flag-4.ensures)
    (carried_by c.args.self.now.rule c.args.told)))
