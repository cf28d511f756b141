-- A frame tells the seconds of the day and the sign of a zero beside its record.
use Rattle.cond.proofs.Kit.{refl}
use Rattle.spelling.specs.Bytes.{groups_limit, groups_width}
use Rattle.forms.specs.Fields.Sign.{sign_consistent}
use Rattle.forms.specs.Fields.Time.{seconds_consistent}
use Rattle.forms.specs.Places.{values}
use Rattle.frame.proofs.Form.{agreed_by, sign_test, time_told}
use Rattle.frame.proofs.FrameSizedForm.agrees.Goals as goal

pub seconds_of_day-requires : goal.seconds_of_day-requires
seconds_of_day-requires c = time_told c.args.self.now.rule c.args.s.now c.args.told c.requires.decoded c.requires.ranged

pub returns : goal.returns
unfolding sign_consistent seconds_consistent values groups_limit groups_width
returns c = simp (c.pair_number-seconds.ensures.0 2 refl, c.seconds_of_day.ensures, c.requires.decoded)
    (simp (c.number_at.ensures.0, c.offset_minutes.ensures.0, sign_test)
    (agreed_by c.args.self.now.rule c.args.s.now))
