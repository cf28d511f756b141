-- Demand 1 of readers and writers: each answer is made of tests, and the refusal of each test has one of the numbers.
use Rattle.std.specs.Prelude.{Result, Ok, Err}
use Rattle.record.specs.declared.refusal.Refusal.{Refusal}
use Rattle.cond.proofs.Kit.{[], ◌&&◌, ◌∷◌, ◌≡◌, Bool, eqb, false, leb, length, List, refl, true, ℕ}
use Rattle.cond.specs.Pick.{pick}
use Rattle.record.specs.Answers.{number_in}
use Rattle.record.specs.Record.{is_good}
use Rattle.record.specs.declared.Record.{Record}
use Rattle.record.proofs.Answers.{refused_read, refused_write}
use Rattle.forms.specs.All.{is_one_of}
use Rattle.forms.specs.Block.{block_of, layout_at, read_block}
use Rattle.forms.specs.Carries.{Carries}
use Rattle.forms.specs.Checksum.{Checksum, checksums_hold}
use Rattle.forms.specs.Demand1.{Demand1}
use Rattle.forms.specs.Encode.{encode}
use Rattle.forms.specs.Form.{Form, bytes_by, carries, consistent, is_expressible, left_by, left_of, ranges, read_by, read_layout, validated, write_by}
use Rattle.forms.specs.Forms.{FormKind, all_forms, block, form_kind_of, left_as, left_form, read_as, read_form, sized, unknown, write_as, write_form}
use Rattle.forms.specs.Places.{Layout, layout_width, shape, values}
use Rattle.forms.specs.Required.{has_carried}
use Rattle.forms.specs.Slots.{Values}

-- a test of numbers that two answers pass, the one that is picked passes

pick_read : (t : ℕ → Bool) (b : Bool) (x y : Result Record Refusal) → t (number_in x) ≡ true → t (number_in y) ≡ true → t (number_in (pick b x y)) ≡ true
pick_read t true x y p q = p
pick_read t false x y p q = q

pick_write : (t : ℕ → Bool) (b : Bool) (x y : Result ℕ Refusal) → t (number_in x) ≡ true → t (number_in y) ≡ true → t (number_in (pick b x y)) ≡ true
pick_write t true x y p q = p
pick_write t false x y p q = q

abbrev of_read : ℕ → Bool
of_read = is_one_of (0 ∷ 1 ∷ 2 ∷ 3 ∷ 6 ∷ 4 ∷ 5 ∷ [])

validated_number : (k : Carries) (v : Values) → of_read (number_in (validated k v)) ≡ true
unfolding validated
validated_number k v = pick_read of_read (ranges k v) _ _ (pick_read of_read (consistent k v) _ _ refl refl) refl

layout_number : (ps : Layout) (cs : List Checksum) (s : List ℕ) → of_read (number_in (read_layout ps cs s)) ≡ true
unfolding read_layout
layout_number ps cs s =
    pick_read of_read (shape ps 0 s) _ _
    (pick_read of_read (checksums_hold cs s (values ps 0 s)) _ _ (validated_number _ (values ps 0 s)) refl) refl

read_number_lem : (l : FormKind) (s : List ℕ) → of_read (number_in (read_as l s)) ≡ true
unfolding read_as read_by read_block
read_number_lem (sized d) s = pick_read of_read (eqb (length s) d.size) _ _ (layout_number d.layout d.checksums s) refl
read_number_lem (block e) s =
    pick_read of_read (leb e.least (length s) && leb (length s) e.most) _ _
    (pick_read of_read (eqb (layout_width (layout_at e.lines 0 s)) (length s)) _ _ (layout_number (layout_at e.lines 0 s) [] s) refl) refl
read_number_lem unknown s = refl

abbrev of_write : ℕ → Bool
of_write = is_one_of (0 ∷ 1 ∷ 7 ∷ 8 ∷ 9 ∷ 10 ∷ [])

form_number : (d : Form) (r : Record) (n : ℕ) → of_write (number_in (write_by d r n)) ≡ true
unfolding write_by
form_number d r n =
    pick_write of_write (is_good r) _ _
    (pick_write of_write (has_carried (carries d) r) _ _
    (pick_write of_write (is_expressible d.layout (encode r)) _ _ (pick_write of_write (leb d.size n) _ _ refl refl) refl) refl) refl

write_number_lem : (l : FormKind) (r : Record) (n : ℕ) → of_write (number_in (write_as l r n)) ≡ true
unfolding write_as
write_number_lem (sized d) r n = form_number d r n
write_number_lem (block e) r n = form_number (block_of e r) r n
write_number_lem unknown r n = refl

-- a refused write leaves the buffer

form_untouched : (d : Form) (r : Record) (out : List ℕ) → (number_in (write_by d r (length out)) ≡ 0 → ⊥) → left_by d r out ≡ out
unfolding left_by
form_untouched d r out h = go (write_by d r (length out)) h
  where
    go : (a : Result ℕ Refusal) → (number_in a ≡ 0 → ⊥) → left_of a (bytes_by d (encode r)) out ≡ out
    go (Ok n) h = absurd (h refl)
    go (Err x) h = refl

untouched : (l : FormKind) (r : Record) (out : List ℕ) → (number_in (write_as l r (length out)) ≡ 0 → ⊥) → left_as l r out ≡ out
unfolding write_as left_as
untouched (sized d) r out h = form_untouched d r out h
untouched (block e) r out h = form_untouched (block_of e r) r out h
untouched unknown r out h = refl

pub demand_1 : Demand1
unfolding read_form write_form left_form
demand_1 =
    record {
      reads = λ n s. read_number_lem (form_kind_of all_forms n) s;
      empty = λ n s. refused_read (read_form n s);
      writes = λ n r room. write_number_lem (form_kind_of all_forms n) r room;
      no_length = λ n r room. refused_write (write_form n r room);
      untouched = λ n r out. untouched (form_kind_of all_forms n) r out;
    }
