-- The part is as wide as asked, so its number and its bound are those of the place.
use Rattle.cond.proofs.Kit.{◌∙◌, ap, arith, length, sym}
use Rattle.spelling.specs.Spelling.{bits}
use Rattle.spelling.proofs.Spelling.{sized_value}
use Rattle.spelling.proofs.Stored.{few}
use Rattle.forms.proofs.Layouts.{piece_length}
use Rattle.frame.proofs.groups.number_at.Goals as goal

pub returns : goal.returns
returns c = let a = c.args in
    let l = piece_length a.at a.s.now a.w c.requires.0 in
    let n = rw c.part_of.ensures at c.bits_number.ensures.0 ∙ few 24 _ _ (omega (arith, l, c.requires.1)) in
    (n ∙ sym (sized_value _ (bits a.w) l), n, rw (ap length c.part_of.ensures ∙ l) at c.bits_number.ensures.1)
