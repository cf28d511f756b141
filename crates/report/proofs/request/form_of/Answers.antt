-- Each test that refuses a line is one of the definition's; a line that passes them all has the digit.
use Rattle.cond.proofs.Kit.{◌%◌, ◌<◌, ◌∙◌, ◌≡◌, ◌≤◌, arith, eq-eqb, get_or, le-leb, length, List, lt-leb, ne_eqb, sym, ℕ}
use Rattle.forms.specs.Valid.{length_of}
use Rattle.serial.proofs.Lengths.{not_serial, some_serial}
use Rattle.report.specs.Request.{form_of}
use Rattle.report.proofs.request.form_of.Goals as goal

module _ (s : List ℕ) (two : length s ≡ 2) (lf : get_or s 1 0 ≡ 10) where
  below : get_or s 0 0 < 48 → 0 ≡ form_of s
  unfolding form_of
  below h = rw (eq-eqb (length s) 2 two, eq-eqb (get_or s 1 0) 10 lf, lt-leb 48 (get_or s 0 0) h)

  above : 57 < get_or s 0 0 → 0 ≡ form_of s
  unfolding form_of
  above h = rw (eq-eqb (length s) 2 two, eq-eqb (get_or s 1 0) 10 lf, le-leb 48 (get_or s 0 0) (omega arith), lt-leb (get_or s 0 0) 57 h)

  module _ (h : 48 ≤ get_or s 0 0) (l : get_or s 0 0 ≤ 57) (n : ℕ) (is : n ≡ length_of (get_or s 0 0 % 16)) where
    no_form : n ≡ 0 → 0 ≡ form_of s
    unfolding form_of
    no_form e =
        rw (eq-eqb (length s) 2 two, eq-eqb (get_or s 1 0) 10 lf, le-leb 48 (get_or s 0 0) h, le-leb (get_or s 0 0) 57 l, not_serial (get_or s 0 0 % 16) (sym is ∙ e))

    form : (n ≡ 0 → ⊥) → get_or s 0 0 % 16 ≡ form_of s
    unfolding form_of
    form e =
        let known = some_serial (get_or s 0 0 % 16) (λ z. e (is ∙ z)) in
        rw (eq-eqb (length s) 2 two, eq-eqb (get_or s 1 0) 10 lf, le-leb 48 (get_or s 0 0) h, le-leb (get_or s 0 0) 57 l, known)

pub returns-then-line-ne2 : goal.returns-then-line-ne2
unfolding form_of
returns-then-line-ne2 c = rw (ne_eqb (length c.args.line.now) 2 c.if-line-ne2.true)

pub returns-then-line-ne10 : goal.returns-then-line-ne10
unfolding form_of
returns-then-line-ne10 c = let s = c.args.line.now in
    rw (eq-eqb (length s) 2 c.if-line-ne2.false, ne_eqb (get_or s 1 0) 10 c.if-line-ne10.true)

pub returns-then-b-lt48 : goal.returns-then-b-lt48
unfolding form_of
returns-then-b-lt48 c = below c.args.line.now c.if-line-ne2.false c.if-line-ne10.false (omega arith)

pub returns-then-b-gt57 : goal.returns-then-b-gt57
unfolding form_of
returns-then-b-gt57 c = above c.args.line.now c.if-line-ne2.false c.if-line-ne10.false (omega arith)

pub returns-then-length_of-eq0 : goal.returns-then-length_of-eq0
unfolding form_of
returns-then-length_of-eq0 c = let s = c.args.line.now in
    no_form s c.if-line-ne2.false c.if-line-ne10.false (omega arith) (omega arith) _ c.length_of.ensures c.if-length_of-eq0.true

pub returns : goal.returns
unfolding form_of
returns c = let s = c.args.line.now in
    form s c.if-line-ne2.false c.if-line-ne10.false (omega arith) (omega arith) _ c.length_of.ensures c.if-length_of-eq0.false
