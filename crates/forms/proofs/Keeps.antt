-- Demand 2 in terms of answers and buffers follows from the round trips of a form's bytes.
use Rattle.std.specs.Prelude.{Ok, Err}
use Rattle.cond.proofs.Kit.{◌++◌, ◌∙◌, ◌≡◌, ◌≤◌, ap, arith, drop, drop_at, length, List, refl, sym, take, take_at, true, ℕ}
use Rattle.record.specs.declared.Record.{Record}
use Rattle.record.specs.declared.refusal.Refusal.{Refusal}
use Rattle.record.specs.declared.refusal.Refusal.TheVariants as refusal
use Rattle.forms.specs.Form.{Form, bytes_by, left_by, left_of, read_by, write_by}
use Rattle.forms.specs.Forms.{FormKind, carried_as, has_carried_as, left_as, read_as, sized, unknown, write_as}
use Rattle.forms.specs.Encode.{encode}
use Rattle.forms.proofs.Accepted.{accepted, refused_read}
use Rattle.forms.proofs.Trips.{Trips, refused_written, taken_by}

-- demand 2 in terms of answers and buffers, for a form of one length and for the block
pub record Keeps (l : FormKind) : Type 0 where
  pub written : (r : Record) (out : List ℕ) (k : ℕ) → write_as l r (length out) ≡ Ok k
      → read_as l (take k (left_as l r out)) ≡ Ok (carried_as l r)
  pub behind : (r : Record) (out : List ℕ) (k : ℕ) → write_as l r (length out) ≡ Ok k → drop k (left_as l r out) ≡ drop k out
  pub again : (s : List ℕ) (r : Record) (out : List ℕ) → read_as l s ≡ Ok r → length s ≤ length out
      → (write_as l r (length out) ≡ Ok (length s)) × (left_as l r out ≡ s ++ drop (length s) out)
  pub complete : (s : List ℕ) (r : Record) → read_as l s ≡ Ok r → has_carried_as l r ≡ true
  pub alone : (s : List ℕ) (r : Record) → read_as l s ≡ Ok r → carried_as l r ≡ r
  pub untouched : (r : Record) (out : List ℕ) (x : Refusal) → write_as l r (length out) ≡ Err x → left_as l r out ≡ out

-- what a write that succeeded leaves
pub left_written : (d : Form) (r : Record) (out : List ℕ) (k : ℕ) → write_by d r (length out) ≡ Ok k
    → left_by d r out ≡ bytes_by d (encode r) ++ drop k out
unfolding left_by
left_written d r out k h = ap (λ a. left_of a (bytes_by d (encode r)) out) h

pub left_refused : (d : Form) (r : Record) (out : List ℕ) (x : Refusal) → write_by d r (length out) ≡ Err x → left_by d r out ≡ out
unfolding left_by
left_refused d r out x h = ap (λ a. left_of a (bytes_by d (encode r)) out) h

-- its bytes stand in front, and what was behind them stays
module _ (d : Form) (r : Record) (out : List ℕ) (k : ℕ) (h : write_by d r (length out) ≡ Ok k) (long : length (bytes_by d (encode r)) ≡ k) where
  pub front_written : take k (left_by d r out) ≡ bytes_by d (encode r)
  front_written = ap (take k) (left_written d r out k h) ∙ take_at (bytes_by d (encode r)) (drop k out) k long

  pub back_written : drop k (left_by d r out) ≡ drop k out
  back_written = ap (drop k) (left_written d r out k h) ∙ drop_at (bytes_by d (encode r)) (drop k out) k long

pub sized_keeps : (d : Form) → Trips d → Keeps (sized d)
unfolding read_as write_as left_as
sized_keeps d t =
    record {
      written = λ r out k h.
          let long : length (bytes_by d (encode r)) ≡ k = t.sized r (length out) k h ∙ (taken_by d r (length out) k h).size in
          ap (read_by d) (front_written d r out k h long) ∙ t.written_read r (length out) k h;
      behind = λ r out k h.
          let long : length (bytes_by d (encode r)) ≡ k = t.sized r (length out) k h ∙ (taken_by d r (length out) k h).size in
          back_written d r out k h long;
      again = λ s r out h l.
          let long = (accepted d s r h).long in
          let w : write_by d r (length out) ≡ Ok (length s) = t.taken s r (length out) (omega arith) h ∙ ap Ok (sym long) in
          (w, left_written d r out (length s) w ∙ ap (λ b. b ++ drop (length s) out) (t.read_written s r h));
      complete = t.complete;
      alone = t.nothing_else;
      untouched = left_refused d;
    }

-- a form that is none refuses everything
pub unknown_keeps : Keeps unknown
unfolding read_as write_as left_as
unknown_keeps =
    record {
      written = λ r out k h. absurd (refused_written refusal.UnknownForm k h);
      behind = λ r out k h. refl;
      again = λ s r out h l. absurd (refused_read refusal.UnknownForm r h);
      complete = λ s r h. refl;
      alone = λ s r h. refl;
      untouched = λ r out x h. refl;
    }
