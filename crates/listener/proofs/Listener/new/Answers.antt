-- A form of length 0 is none; any other starts with no bytes and the distance n.
use Rattle.cond.proofs.Kit.{◌∙◌, sym}
use Rattle.serial.proofs.Lengths.{not_serial, some_serial}
use Rattle.listener.specs.Listening.{started_of}
use Rattle.listener.proofs.Listener.new.Goals as goal

pub returns-then-n-eq0 : goal.returns-then-n-eq0
unfolding started_of
returns-then-n-eq0 c = rw (not_serial c.args.form (sym c.length_of-n.ensures ∙ c.if-n-eq0.true))

pub returns : goal.returns
unfolding started_of
returns c = let n = c.length_of-n.ensures in
    rw (some_serial c.args.form (λ e. c.if-n-eq0.false (n ∙ e)), n)
