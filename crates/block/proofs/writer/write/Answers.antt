-- Each answer is the form's answer after the tests that led to it; the block asks for no field and has a word for every record.
use Rattle.cond.proofs.Kit.{◌∙◌, ◌≤◌, arith, length, length-take-le, lit≤, sym}
use Rattle.forms.specs.Block.{block_of, first_edition}
use Rattle.forms.proofs.Block.{block_size}
use Rattle.forms.proofs.FirstEdition.{first_sound}
use Rattle.forms.proofs.Writes.{bad_record, short_buffer, written_as}
use Rattle.block.proofs.Layouts.{block_complete, block_has_words, put_copied, put_size}
use Rattle.block.proofs.writer.write.Goals as goal

pub returns-then-out-n : goal.returns-then-out-n
returns-then-out-n c = let a = c.args in
    let g = sym c.is_good.ensures ∙ c.if-is_good.true in
    short_buffer (block_of first_edition a.r) a.r a.out.now g (block_complete a.r) (block_has_words a.r g) (omega (arith, put_size a.r g (lit≤ tt) c.put-n.ensures))

pub slice_bounds-block-end : goal.slice_bounds-block-end
slice_bounds-block-end c = let r = c.args.r in
    let g = sym c.is_good.ensures ∙ c.if-is_good.true in
    omega (arith, put_size r g (lit≤ tt) c.put-n.ensures, block_size first_edition first_sound r g)

pub slice_bounds-put_bytes-end : goal.slice_bounds-put_bytes-end
slice_bounds-put_bytes-end c = let r = c.args.r in
    let g = sym c.is_good.ensures ∙ c.if-is_good.true in
    sym (length-take-le _ _ (omega (arith, put_size r g (lit≤ tt) c.put-n.ensures, block_size first_edition first_sound r g)))

pub returns-else-out-n : goal.returns-else-out-n
returns-else-out-n c = let a = c.args in
    let g = sym c.is_good.ensures ∙ c.if-is_good.true in
    let p = c.put-n.ensures in
    let n = put_size a.r g (lit≤ tt) p in
    let l : (block_of first_edition a.r).size ≤ length a.out.now = omega (arith, c.if-out-n.false) in
    rw n (written_as (block_of first_edition a.r) a.r a.out.now g (block_complete a.r) (block_has_words a.r g) _ l (c.put_bytes.ensures ∙ put_copied a.r g (lit≤ tt) p a.out.now l))

pub returns-else-is_good : goal.returns-else-is_good
returns-else-is_good c = let a = c.args in
    bad_record (block_of first_edition a.r) a.r a.out.now (sym c.is_good.ensures ∙ c.if-is_good.false)
