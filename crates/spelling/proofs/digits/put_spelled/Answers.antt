-- The digits still to be stored make of the bytes as they are what all of them make of the bytes at entry: the last one goes first.
use Rattle.cond.proofs.Kit.{◌∙◌, arith, length-set, sym}
use Rattle.spelling.specs.Bytes.{hex_of}
use Rattle.spelling.proofs.Base.{spelled_length}
use Rattle.spelling.proofs.Stored.{stored_in}
use Rattle.spelling.proofs.Stores.{put_step, put_end}
use Rattle.spelling.proofs.digits.put_spelled.Goals as goal

pub loop-i-preserved : goal.loop-i-preserved
loop-i-preserved g c =
    let a = c.loop-i in (
      simp length-set a.invariant.0,
      simp length-set a.invariant.1,
      simp c.digit.ensures (a.invariant.2 ∙ put_step g.row.BASE hex_of c.requires.positive _ _ _ a.i c.loop-i-test.true),
    )

pub returns : goal.returns
returns g c =
    let a = c.loop-i in
    sym (stored_in _ _ _ (rw (spelled_length g.row.BASE hex_of c.args.w c.args.n) (omega (arith, a.invariant.1))) ∙ a.invariant.2
    ∙ put_end g.row.BASE hex_of c.requires.positive _ _ _ c.loop-i.i (omega arith))
