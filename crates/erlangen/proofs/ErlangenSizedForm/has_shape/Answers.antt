-- The layout is tested in its eight pieces.
use Rattle.cond.proofs.Kit.{and_assoc, sym}
use Rattle.erlangen.proofs.Pieces.{shape_pieces}
use Rattle.erlangen.proofs.ErlangenSizedForm.has_shape.Goals as goal

pub returns : goal.returns
returns c = simp and_assoc
    (simp (c.is_date.ensures, c.is_time.ensures, c.is_offset.ensures, c.are_flags.ensures)
    (simp (c.is_leap_second.ensures, c.is_latitude.ensures, c.is_longitude.ensures, c.is_altitude.ensures)
    (sym (shape_pieces c.args.s.now))))
