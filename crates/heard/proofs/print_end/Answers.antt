-- The line that was written lies at the head of the buffer.
use Rattle.cond.proofs.Kit.{length-take-le, sym}
use Rattle.report.proofs.Line.{ended_inside, ended_text, not_short}
use Rattle.heard.specs.Output.{summary}
use Rattle.heard.proofs.print_end.Goals as goal

pub slice_bounds-print-end : goal.slice_bounds-print-end
slice_bounds-print-end g c = ended_inside c.write_end.ensures c.in-Ok.is

pub slice_bounds-print-end-in-Ok : goal.slice_bounds-print-end-in-Ok
slice_bounds-print-end-in-Ok g c = sym (length-take-le _ _ (ended_inside c.write_end.ensures c.in-Ok.is))

pub print-requires : goal.print-requires
print-requires g c = rw (ended_text c.write_end.ensures c.in-Ok.is) (summary c.requires.3)

pub returns-in-Ok : goal.returns-in-Ok
returns-in-Ok g c = λ room. rw (ended_text c.write_end.ensures c.in-Ok.is) at c.print.ensures

pub returns-in-Err : goal.returns-in-Err
returns-in-Err g c = λ room. absurd (not_short c.write_end.ensures room c.in-Err.is)
