-- Demand 2 for an edition of the block: it keeps every field, and takes every good record.
use Rattle.std.specs.Prelude.{Ok, Err}
use Rattle.cond.proofs.Kit.{[], ◌&&◌, ◌++◌, ◌∙◌, ◌≡◌, ◌≤◌, ap, arith, drop, eq-eqb, eqb, eqb-true, le-leb, leb, length, List, refl, sym, true, ℕ}
use Rattle.cond.specs.Pick.{pick}
use Rattle.record.specs.Record.{is_good}
use Rattle.record.specs.declared.Record.{Record}
use Rattle.record.specs.declared.refusal.Refusal.TheVariants as refusal
use Rattle.forms.specs.Block.{Edition, block_of, chosen_layout, read_block, layout_at}
use Rattle.forms.specs.Carries.{carries_of}
use Rattle.forms.specs.Form.{bytes_by, is_expressible, read_by, read_layout, write_by}
use Rattle.forms.specs.Forms.{block, left_as, read_as, write_as}
use Rattle.forms.specs.CarriedPart.{carried_part}
use Rattle.forms.specs.Required.{has_carried}
use Rattle.forms.specs.Places.{layout_width}
use Rattle.forms.specs.Encode.{encode}
use Rattle.forms.proofs.Accepted.{accepted, passed}
use Rattle.forms.proofs.Lines.{every_line, is_choice}
use Rattle.forms.proofs.Keeps.{Keeps, back_written, front_written, left_refused, left_written}
use Rattle.forms.proofs.Variants.{choices_at_lem, choices_at, form_of, is_distinct, nonempty, layout_at_lem, layout_found}
use Rattle.forms.proofs.ReadWrite.{Rewritten, read_write}
use Rattle.forms.proofs.Sound.{SoundForm}
use Rattle.forms.proofs.Trips.{taken_by}
use Rattle.forms.proofs.WriteRead.{write_length, write_read}

-- what an edition has to show
pub record SoundEdition (e : Edition) : Type 0 where
  -- every choice of variants makes a sound layout
  pub sound : (cs : List ℕ) → is_choice e.lines cs ≡ true → SoundForm (form_of (chosen_layout e.lines cs))
  -- no two variants of a line fit the same bytes, and every line has one
  pub distinct : every_line is_distinct e.lines ≡ true
  pub filled : every_line nonempty e.lines ≡ true
  -- a record's own choices make a layout that takes, keeps and words all of it
  pub chosen : (r : Record) → is_choice e.lines (e.choices r) ≡ true
  pub taken : (r : Record) → has_carried (carries_of (chosen_layout e.lines (e.choices r))) r ≡ true
  pub whole : (r : Record) → carried_part (carries_of (chosen_layout e.lines (e.choices r))) r ≡ r
  pub expressed : (r : Record) → is_good r ≡ true → is_expressible (chosen_layout e.lines (e.choices r)) (encode r) ≡ true
  pub bounded : (r : Record) → is_good r ≡ true
      → (e.least ≤ layout_width (chosen_layout e.lines (e.choices r))) × (layout_width (chosen_layout e.lines (e.choices r)) ≤ e.most)
  -- a layout that does so is made by the record's own choices
  pub own : (cs : List ℕ) → is_choice e.lines cs ≡ true → (r : Record) → is_expressible (chosen_layout e.lines cs) (encode r) ≡ true
      → has_carried (carries_of (chosen_layout e.lines cs)) r ≡ true → carried_part (carries_of (chosen_layout e.lines cs)) r ≡ r → e.choices r ≡ cs

record Again (e : Edition) (s : List ℕ) (r : Record) : Type 0 where
  long : length s ≡ (block_of e r).size
  rewritten : Rewritten (block_of e r) s r

module _ (e : Edition) (f : SoundEdition e) where
  -- what a record wrote

  module _ (r : Record) where
    pub own_sound : SoundForm (block_of e r)
    unfolding block_of
    own_sound = f.sound (e.choices r) (f.chosen r)

    pub block_size : is_good r ≡ true → (e.least ≤ (block_of e r).size) × ((block_of e r).size ≤ e.most)
    unfolding block_of
    block_size = f.bounded r

    -- refusal 8 "form 9 never", and 9 neither: a good record is written where the buffer has room
    pub block_answer : (n : ℕ) → is_good r ≡ true
        → write_by (block_of e r) r n ≡ pick (leb (block_of e r).size n) (Ok (block_of e r).size) (Err refusal.ShortBuffer)
    unfolding write_by block_of
    block_answer n g = simp (g, f.taken r, f.expressed r g)

    pub block_written : (n : ℕ) → is_good r ≡ true → (block_of e r).size ≤ n → write_by (block_of e r) r n ≡ Ok (block_of e r).size
    block_written n g l = block_answer n g ∙ simp (le-leb (block_of e r).size n l)

    pub block_length : is_good r ≡ true → length (bytes_by (block_of e r) (encode r)) ≡ (block_of e r).size
    block_length g = write_length (block_of e r) own_sound r g (unfold block_of in f.expressed r g)

    -- bytes that the record's own layout accepts are read as a block
    block_found : (s : List ℕ) (q : Record) → is_good r ≡ true → read_by (block_of e r) s ≡ Ok q → read_block e s ≡ Ok q
    unfolding read_block read_by block_of
    block_found s q g h =
        let layout = chosen_layout e.lines (e.choices r) in
        let a = accepted (block_of e r) s q h in
        let b = passed (eqb (length s) (layout_width layout)) _ _ q h in
        let z = f.bounded r g in
        let m = layout_found e.lines (e.choices r) 0 s f.distinct (f.chosen r) a.shaped (omega (arith, a.long)) in
        simp (m, le-leb e.least (length s) (omega (arith, a.long)), le-leb (length s) e.most (omega (arith, a.long)), eq-eqb (layout_width layout) (length s) (sym a.long))
        b.1

  -- what was read as a block is what its record's own layout accepts
  read_again : (s : List ℕ) (r : Record) → read_block e s ≡ Ok r → Again e s r
  unfolding read_block read_by block_of
  read_again s r h =
      let ls = e.lines in
      let cs = choices_at ls 0 s in
      let o = choices_at_lem ls 0 s f.filled in
      let a = passed (leb e.least (length s) && leb (length s) e.most) _ _ r h in
      let b = passed (eqb (layout_width (layout_at ls 0 s)) (length s)) (read_layout (layout_at ls 0 s) [] s) _ r a.1 in
      let w : length s ≡ layout_width (chosen_layout ls cs) = sym (rw (layout_at_lem ls 0 s) at (eqb-true (layout_width (layout_at ls 0 s)) (length s) b.0)) in
      let d : read_by (form_of (chosen_layout ls cs)) s ≡ Ok r =
      simp (eq-eqb (length s) (layout_width (chosen_layout ls cs)) w) (rw (layout_at_lem ls 0 s) at b.1) in
      let c = read_write (form_of (chosen_layout ls cs)) (f.sound cs o) s r d in
      let m = f.own cs o r c.spellable c.complete c.nothing_else in
      record { long = rw m w; rewritten = rw m c }

  pub block_keeps : Keeps (block e)
  unfolding read_as write_as left_as
  block_keeps =
      record {
        written = λ r out k h.
            let t = taken_by (block_of e r) r (length out) k h in
            ap (read_block e) (front_written (block_of e r) r out k h (block_length r t.good ∙ t.size))
            ∙ block_found r _ r t.good
            (write_read (block_of e r) (own_sound r) r t.good t.spellable t.complete ∙ ap Ok (unfold block_of in f.whole r));
        behind = λ r out k h.
            let t = taken_by (block_of e r) r (length out) k h in
            back_written (block_of e r) r out k h (block_length r t.good ∙ t.size);
        again = λ s r out h l.
            let a = read_again s r h in
            let long = a.long in
            let w : write_by (block_of e r) r (length out) ≡ Ok (length s) =
            block_written r (length out) a.rewritten.good (omega arith) ∙ ap Ok (sym long) in
            (w, left_written (block_of e r) r out (length s) w ∙ ap (λ b. b ++ drop (length s) out) a.rewritten.same_bytes_lem);
        complete = λ s r h. refl;
        alone = λ s r h. refl;
        untouched = λ r. left_refused (block_of e r) r;
      }
