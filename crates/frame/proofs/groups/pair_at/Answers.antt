-- Each group is tested at its own place.
use Rattle.spelling.specs.Bytes.{groups_width}
use Rattle.cond.proofs.Kit.{and_assoc, and-true}
use Rattle.frame.specs.Layouts.{pair}
use Rattle.frame.proofs.Digits.{are_at, groups_spelled}
use Rattle.frame.proofs.groups.pair_at.Goals as goal

pub returns : goal.returns
unfolding are_at groups_width
returns c = λ b.
    let a = c.args in
    simp (and_assoc, c.bits_at.ensures, c.is_at.ensures, c.bits_at-2.ensures)
    (simp (groups_spelled b (pair a.low a.between a.high) a.at a.s.now, and-true))
