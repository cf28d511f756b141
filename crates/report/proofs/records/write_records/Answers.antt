-- Each turn writes the first record still to come, and what is written so far is what all records begin with.
use Rattle.cond.proofs.Kit.{◌+◌, ◌-◌, ◌∙◌, arith, sym}
use Rattle.report.proofs.Paragraphs.{part_length}
use Rattle.report.proofs.Scanned.{ends_inside, fits, goes_on, good, no_form, no_room, wrote_all}
use Rattle.report.proofs.records.write_records.Goals as goal

pub returns-then-n-eq0 : goal.returns-then-n-eq0
returns-then-n-eq0 c = let a = c.args in
    no_form a.form a.piece.now a.out.now (sym c.length_of-n.ensures ∙ c.if-n-eq0.true)

pub returns-then-out-piece : goal.returns-then-out-piece
returns-then-out-piece c = let a = c.args in
    no_room a.form a.piece.now a.out.now (λ e. c.if-n-eq0.false (c.length_of-n.ensures ∙ e)) c.if-out-piece.true

pub slice_bounds-put_paragraph-end : goal.slice_bounds-put_paragraph-end
slice_bounds-put_paragraph-end c = let q = c.loop-found in
    omega (arith, fits q.invariant c.search.ensures c.in-Ok.is)

pub put_paragraph-bytes-requires : goal.put_paragraph-bytes-requires
put_paragraph-bytes-requires c = let q = c.loop-found in
    let found = c.search.ensures in
    let g = c.in-Ok.is in
    (good q.invariant found g, omega (arith, part_length q.out q.bytes (q.bytes + 175 - q.bytes) (omega (arith, fits q.invariant found g))))

pub overflow_add-start : goal.overflow_add-start
overflow_add-start c = let q = c.loop-found in
    let found = c.search.ensures in
    let n = c.length_of-n.ensures in
    let g = c.in-Ok.is in
    omega (arith, ends_inside q.invariant found g _ _ n c.put_paragraph-bytes.ensures.0)

pub loop-found-smaller : goal.loop-found-smaller
loop-found-smaller c = let q = c.loop-found in
    let found = c.search.ensures in
    let n = c.length_of-n.ensures in
    let put = c.put_paragraph-bytes.ensures in
    let next = goes_on q.invariant found c.in-Ok.is _ _ n put.0 _ put.1 in
    omega (arith, next.0, next.1.inside)

pub loop-found-preserved : goal.loop-found-preserved
loop-found-preserved c = let q = c.loop-found in
    let found = c.search.ensures in
    let n = c.length_of-n.ensures in
    let put = c.put_paragraph-bytes.ensures in
    (goes_on q.invariant found c.in-Ok.is _ _ n put.0 _ put.1).1

pub returns : goal.returns
returns c = wrote_all c.loop-found.invariant c.search.ensures c.in_default.is
