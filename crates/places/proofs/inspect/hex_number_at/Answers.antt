-- A part of another width is answered with 0; else the part has w bytes, and their number is that of the place.
use Rattle.cond.proofs.Kit.{◌∙◌, ap, drop, length, sym, take}
use Rattle.spelling.specs.Spelling.{hex}
use Rattle.places.proofs.Numbers.{right_width, wrong_width}
use Rattle.places.proofs.inspect.hex_number_at.Goals as goal

pub returns-then-x-w : goal.returns-then-x-w
returns-then-x-w c = let a = c.args in
    wrong_width (hex a.w) 7 (take a.w (drop a.at a.s.now)) (λ h. c.if-x-w.true (ap length c.part_of-x.ensures ∙ h))

pub returns : goal.returns
returns c = let a = c.args in
    let e = c.part_of-x.ensures in
    rw e at c.hex_number.ensures.0
    ∙ right_width (hex a.w) 7 (take a.w (drop a.at a.s.now)) (sym (ap length e) ∙ c.if-x-w.false)
