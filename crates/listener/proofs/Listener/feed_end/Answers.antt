-- A state that refusal 11 names is returned as it is; in any other the byte goes into the ring, and the step follows.
use Rattle.cond.proofs.Kit.{◌∙◌, ◌≡◌, ◌≤◌, ap, length, length-set, sym, ℕ}
use Rattle.forms.specs.Valid.{length_of}
use Rattle.serial.specs.Shape.{longest, shape_of}
use Rattle.serial.specs.declared.Shape.{Shape}
use Rattle.serial.proofs.Lengths.{length_most}
use Rattle.listener.proofs.Steps.{far_away, many_kept, moves_on, newest_byte, refused_state}
use Rattle.listener.proofs.Listener.feed_end.Goals as goal

module _ (x : Shape) (form : ℕ) (e : x ≡ shape_of form) where
  long : x.length ≡ length_of form
  long = ap (λ (y : Shape). y.length) e

  most : x.length ≤ longest
  most = rw long (length_most form)

pub returns-then-n-self : goal.returns-then-n-self
returns-then-n-self c = let a = c.args in
    let is = long _ a.self.form c.shape_of-shape.ensures in
    refused_state a.self a.b _ is (many_kept _ a.self is c.if-n-self.true)

pub returns-then-n-self-2 : goal.returns-then-n-self-2
returns-then-n-self-2 c = let a = c.args in
    let is = long _ a.self.form c.shape_of-shape.ensures in
    refused_state a.self a.b _ is (far_away _ a.self is c.if-n-self.false c.if-n-self-2.true)

pub completed-reading-requires : goal.completed-reading-requires
completed-reading-requires c = let a = c.args in
    let shape = c.shape_of-shape.ensures in
    let y = c.with_byte-bytes.ensures in
    let newest = newest_byte a.self.bytes _ a.b _ _ c.place-place.ensures.1 y.0 y.1 c.wrap-at.ensures.0 in
    let few = c.if-n-self.false in
    record { shape_is = shape; place = c.wrap-at.ensures.1; few = few; most = most _ a.self.form shape; newest = newest }

pub emitted-answer-requires : goal.emitted-answer-requires
emitted-answer-requires c = let shape = c.shape_of-shape.ensures in
    (c.if-n-self-2.false, most _ _ shape)

pub distance_after-requires : goal.distance_after-requires
distance_after-requires c = let shape = c.shape_of-shape.ensures in
    (c.if-n-self-2.false, most _ _ shape)

pub returns : goal.returns
returns c = let a = c.args in
    let shape = c.shape_of-shape.ensures in
    let y = c.with_byte-bytes.ensures in
    let sized = sym (length-set a.self.bytes _ a.b) ∙ ap length (sym y.0) ∙ y.1 in
    moves_on a.self a.b _ (long _ a.self.form shape) c.if-n-self.false
    c.if-n-self-2.false (most _ a.self.form shape) sized _ _ _ _ _
    c.completed-reading.result _
    c.place-place.ensures.0 y.0 c.wrap-at.ensures.0
    c.completed-reading.ensures c.emitted-answer.ensures c.buffered_after.ensures
    c.distance_after.ensures
