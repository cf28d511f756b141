-- The writer's answer, test by test, over any form, in the order 7, 8, 9, 10; the writers of one length have it from `admitted` of places.
use Rattle.std.specs.Prelude.{Ok, Err}
use Rattle.cond.proofs.Kit.{◌++◌, ◌<◌, ◌∙◌, ◌≡◌, ◌≤◌, drop, false, le-leb, length, List, lt-leb, sym, true, ℕ}
use Rattle.record.specs.Record.{is_good}
use Rattle.record.specs.declared.Record.{Record}
use Rattle.record.specs.declared.refusal.Refusal.{Refusal}
use Rattle.record.specs.declared.refusal.Refusal.TheVariants as refusal
use Rattle.forms.specs.Form.{Form, Wrote, bytes_by, carries, is_expressible, write_by}
use Rattle.forms.specs.Required.{has_carried}
use Rattle.forms.specs.Encode.{encode}
use Rattle.forms.proofs.Keeps.{left_refused, left_written}

module _ (d : Form) (r : Record) (o : List ℕ) where
  refused : (x : Refusal) → write_by d r (length o) ≡ Err x → Wrote d r (Err x) o o
  refused x h = record { answer = sym h; left = sym (left_refused d r o x h) }

  pub bad_record : is_good r ≡ false → Wrote d r (Err refusal.BadRecord) o o
  unfolding write_by
  bad_record g = refused refusal.BadRecord (simp g)

  module _ (g : is_good r ≡ true) (h : has_carried (carries d) r ≡ true) (w : is_expressible d.layout (encode r) ≡ true) where
    pub short_buffer : length o < d.size → Wrote d r (Err refusal.ShortBuffer) o o
    unfolding write_by
    short_buffer l = refused refusal.ShortBuffer (simp (g, h, w, lt-leb d.size (length o) l))

    pub written_as : (after : List ℕ) → d.size ≤ length o → after ≡ bytes_by d (encode r) ++ drop d.size o
        → Wrote d r (Ok d.size) o after
    unfolding write_by
    written_as after l e =
        let a : write_by d r (length o) ≡ Ok d.size = simp (g, h, w, le-leb d.size (length o) l) in
        record { answer = sym a; left = e ∙ sym (left_written d r o d.size a) }
