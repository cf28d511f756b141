-- The answer is `admitted`'s, over whatever form; what is stored are its bytes.
use Rattle.std.proofs.Common.{◌∙◌, ◌++◌, sym, ap, drop}
use Rattle.std.proofs.lemmas.Result.{err_from_is_err_and}
use Rattle.forms.specs.Encode.{encode}
use Rattle.forms.specs.Form.{bytes_by}
use Rattle.places.proofs.Wrote.{refused, storable, wrote_bytes}
use Rattle.sized_form.proofs.Same.{same}
use Rattle.sized_form.proofs.write.Goals as goal

pub returns-in_err-size : goal.returns-in_err-size
returns-in_err-size g c =
    let p = err_from_is_err_and c.from_residual.result c.from_residual.ensures.1 in
    rw (p.1, p.2)
    (refused (g.F.SizedForm.form c.args.form.now) c.args.told c.args.out.now c.is_expressible.result (λ h. sym (c.is_expressible.ensures h)) c.in_err-size.field-0.0
    (same _ _ c.is_good.ensures c.has_carried.ensures (c.SIZE.ensures ∙ sym (g.met.F.SizedForm.sized c.args.form.now)) (sym c.admitted.ensures ∙ c.in_err-size.was)))

pub store-requires : goal.store-requires
store-requires g c =
    storable (g.F.SizedForm.form c.args.form.now) c.args.told c.args.out.now c.is_expressible.result (λ h. sym (c.is_expressible.ensures h)) c.in_ok-size.size
    (same _ _ c.is_good.ensures c.has_carried.ensures (c.SIZE.ensures ∙ sym (g.met.F.SizedForm.sized c.args.form.now)) (sym c.admitted.ensures ∙ c.in_ok-size.was))

pub returns : goal.returns
returns g c =
    wrote_bytes (g.F.SizedForm.form c.args.form.now) c.args.told c.args.out.now c.is_expressible.result (λ h. sym (c.is_expressible.ensures h)) c.in_ok-size.size
    (same _ _ c.is_good.ensures c.has_carried.ensures (c.SIZE.ensures ∙ sym (g.met.F.SizedForm.sized c.args.form.now)) (sym c.admitted.ensures ∙ c.in_ok-size.was)) _ (c.store.ensures ∙ ap (λ n. bytes_by (g.F.SizedForm.form c.args.form.now) (encode c.args.told) ++ drop n c.args.out.now) (sym (g.met.F.SizedForm.sized c.args.form.now)))
