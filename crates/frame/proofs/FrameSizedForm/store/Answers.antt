-- The rows with the parity of the rows without one are the bytes of the form.
use Rattle.cond.proofs.Kit.{◌++◌, ◌∙◌, ap, drop, List, ℕ}
use Rattle.frame.proofs.Elements.{rows_frame}
use Rattle.frame.proofs.FrameSizedForm.store.Goals as goal

pub returns : goal.returns
returns c = let parity = simp (c.put_rows.ensures, c.rows_of.ensures) at c.parity_of.ensures in
    c.put_rows-2.ensures
    ∙ simp c.rows_of-2.ensures
    (ap (λ (l : List ℕ). l ++ drop 100 c.args.out.now) (rows_frame c.args.self.now.rule c.args.told _ _ _ c.sign_of-sign.ensures c.requires.expressible parity))
