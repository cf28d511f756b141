-- Each number is a call.
use Rattle.flat_record.specs.Encode.{head_of}
use Rattle.flat_record.proofs.encode.put_head.Goals as goal

pub returns : goal.returns
unfolding head_of
returns c = cc
