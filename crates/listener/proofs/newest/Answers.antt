-- The last n bytes, where they stand or laid out in a layout, are what the reader gets.
use Rattle.cond.proofs.Kit.{◌+◌, ◌-◌, ◌∙◌, ◌≡◌, ap, arith, rules}
use Rattle.forms.specs.Valid.{record_in, valid_of}
use Rattle.listener.proofs.Rings.{last_bytes, last_window}
use Rattle.listener.proofs.newest.Goals as goal

pub returns-then-end-le-LONGEST : goal.returns-then-end-le-LONGEST
unfolding valid_of
returns-then-end-le-LONGEST c = let a = c.args in
    let p = c.requires in
    let e : c.wrap-from.result + a.n - c.wrap-from.result ≡ a.n = omega arith in
    let fits = rw c.wrap-from.ensures.0 at c.if-end-le-LONGEST.true in
    ap record_in c.read.ensures
    ∙ rw (e, c.wrap-from.ensures.0, last_window a.y a.at p.0 (search rules) a.n p.1.0 p.1.1 fits)

pub returns : goal.returns
unfolding valid_of
returns c = let a = c.args in
    let p = c.requires in
    let e : a.n - 0 ≡ a.n = omega arith in
    ap record_in c.read-2.ensures
    ∙ rw (e, c.in_order-z.ensures, c.wrap-from.ensures.0, last_bytes a.y a.at p.0 (search rules) a.n p.1.0 p.1.1)
