-- Each kind is a case of its own.
use Rattle.flat_record.specs.Decode.{kind_of}
use Rattle.flat_record.proofs.OneKind.{none_fits}
use Rattle.flat_record.proofs.decode.offset_fits.Goals as goal

pub returns-in-0 : goal.returns-in-0
unfolding kind_of
returns-in-0 c = simp c.in-0.is

pub returns-in-1 : goal.returns-in-1
unfolding kind_of
returns-in-1 c = simp (c.in-1.is, c.sign_fits.ensures)

pub returns-in_default : goal.returns-in_default
unfolding kind_of
returns-in_default c = none_fits _ _ c.in_default.in_default-own.rest.0.1 c.in_default.in_default-own.rest.1
