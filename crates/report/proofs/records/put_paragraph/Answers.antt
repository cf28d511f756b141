-- The block of a good record is written where there is room, and an LF closes it.
use Rattle.cond.proofs.Kit.{◌∙◌, arith}
use Rattle.spelling.proofs.Stored.{stored_in}
use Rattle.report.proofs.Paragraphs.{closed, closed_long, closes, paragraph_most}
use Rattle.report.proofs.records.put_paragraph.Goals as goal

pub overflow_add-result : goal.overflow_add-result
overflow_add-result c = let p = c.requires in
    omega (arith, closed_long p.0 p.1 c.put-n.ensures, paragraph_most _ p.0)

pub returns : goal.returns
returns c = let p = c.requires in
    let w = c.put-n.ensures in
    (closed_long p.0 p.1 w, c.put_byte.ensures ∙ stored_in _ _ _ (omega (arith, closes p.0 p.1 w)) ∙ closed p.0 p.1 w)
