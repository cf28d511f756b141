-- Each part of the test is a call, in the order of the piece; the day of the year is three of them.
use Rattle.cond.proofs.Kit.{and_assoc, and-true}
use Rattle.forms.specs.Places.{shape}
use Rattle.spelling.specs.Bytes.{groups_width}
use Rattle.frame.specs.Layouts.{days, pair}
use Rattle.frame.proofs.Digits.{are_at, groups_spelled}
use Rattle.frame.proofs.shape.has_date.Goals as goal

pub returns : goal.returns
unfolding shape groups_width are_at
returns c = let s = c.args.s.now in
    simp (and_assoc, and-true)
    (simp (c.pair_at.ensures 10, c.is_at.ensures, c.bits_at.ensures, c.text_at.ensures)
    (simp (c.is_at-2.ensures, c.pair_at-2.ensures 10, c.is_at-3.ensures)
    (simp (groups_spelled 10 (pair 4 0 4) 30 s, groups_spelled 10 days 30 s)
    (simp (and_assoc, and-true)))))
