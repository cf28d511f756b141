-- A part of another width is answered with 0; else the part has w bytes, and their number and its bound are those of the place.
use Rattle.cond.proofs.Kit.{◌∙◌, ap, drop, le-mul_of_pos_right, length, lit<, sym, take}
use Rattle.spelling.specs.Spelling.{digits}
use Rattle.spelling.proofs.Base.{power_pos}
use Rattle.places.proofs.Numbers.{right_width, wrong_width}
use Rattle.places.proofs.inspect.number_at.Goals as goal

pub returns-then-x-w : goal.returns-then-x-w
returns-then-x-w c = let a = c.args in
    let e = c.part_of-x.ensures in
    (wrong_width (digits a.w) 7 (take a.w (drop a.at a.s.now)) (λ h. c.if-x-w.true (ap length e ∙ h)), le-mul_of_pos_right 2 (power_pos 10 a.w (lit< tt)))

pub returns : goal.returns
returns c = let a = c.args in
    let e = c.part_of-x.ensures in
    let l = sym (ap length e) ∙ c.if-x-w.false in
    (rw e at c.number.ensures.0 ∙ right_width (digits a.w) 7 (take a.w (drop a.at a.s.now)) l, rw c.if-x-w.false at c.number.ensures.1)
