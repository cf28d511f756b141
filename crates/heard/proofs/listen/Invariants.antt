-- Each turn reads behind the bytes carried and goes on with the run; as many bytes go from `left` as it brought, and it brings no more
-- telegrams than bytes.
use Rattle.std.proofs.Common.{◌+◌, ◌-◌, ◌<◌, ◌^◌, ◌≡◌, length}
use Rattle.forms.specs.Valid.{length_of}
use Rattle.heard.proofs.Counts.{Going}
use Rattle.heard.proofs.listen.Given as goal

abbrev pub invariant-loop-left : goal.invariant-loop-left
invariant-loop-left g l = record {
  short : l.carried < length_of l.form;
  room : 65536 ≡ length l.buffer;
  out_room : 720896 ≡ length l.out;
  few : l.telegrams + l.left < 2 ^ 64;
  going : Going l.form l.carried l.buffer (18446744073709551615 - l.left) l.telegrams (g.R.Read.remaining l.initial.reader) (g.R.Read.remaining l.reader) (g.W.Write.contents l.initial.writer) (g.W.Write.contents l.writer);
}

abbrev pub decreases-loop-left : goal.decreases-loop-left
decreases-loop-left g l = l.left
