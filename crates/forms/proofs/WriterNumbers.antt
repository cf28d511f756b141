-- A writer's number follows its tests in order, and its layout has no word in row 9 alone.
use Rattle.std.specs.Prelude.{Ok, Err}
use Rattle.cond.proofs.Kit.{◌%◌, ◌∙◌, ◌≡◌, and-true, arith, Bool, eqb, false, false≢true, leb, not, or-false, refl, sym, true, ℕ}
use Rattle.cond.specs.Pick.{pick}
use Rattle.spelling.specs.Bytes.{letters}
use Rattle.record.specs.Answers.{number_in}
use Rattle.record.specs.Record.{is_good}
use Rattle.record.specs.declared.Record.{Record}
use Rattle.record.specs.declared.sign.SignRule.{SignRule}
use Rattle.record.specs.declared.sign.SignRule.TheVariants.{OneAbove, OneBelow}
use Rattle.record.specs.declared.refusal.Refusal.TheVariants as refusal
use Rattle.forms.specs.Block.{block_of, first_edition}
use Rattle.forms.specs.Encode.{encode}
use Rattle.forms.specs.Fields.Offset.{encode_minutes}
use Rattle.forms.specs.Form.{Form, carries, is_expressible, write_by}
use Rattle.forms.specs.Forms.{FormKind, all_forms, block, form_kind_of, has_carried_as, has_carried_form, is_known, sized, unknown, write_as, write_form}
use Rattle.forms.specs.Frame.{frame}
use Rattle.forms.specs.Places.{has, has_words}
use Rattle.forms.specs.Required.{has_carried}
use Rattle.forms.specs.Serial.{capture, computime, erlangen, racal, rmc, sat, spa, standard, sysplex}
use Rattle.forms.specs.WriterNumbers.{Passed, WriterNumbers, has_no_word, number_after, output_size}
use Rattle.forms.proofs.Block.{block_answer}
use Rattle.forms.proofs.ByNumber.{◌also◌, by_number}
use Rattle.forms.proofs.FirstEdition.{first_sound}
use Rattle.forms.proofs.Frames.{frame_has_words}
use Rattle.forms.proofs.Worded.{Worded, half, not_not, three, two, zoned}

-- the number of each form's answer
abbrev Numbered : ℕ → FormKind → Type 0
Numbered n l =
    (r : Record) (room : ℕ) → is_known l ≡ true
    → number_in (write_as l r room) ≡ number_after (is_good r) (has_carried_as l r) (has_no_word n r) (leb (output_size l r) room)

sized_numbered : (n : ℕ) (d : Form) → Worded n d → Numbered n (sized d)
unfolding write_as write_by
sized_numbered n d w r room k = go (is_good r) (has_carried (carries d) r) (is_expressible d.layout (encode r)) (has_no_word n r) (leb d.size room) (w r)
  where
    go : (g c x y b : Bool) → (g ≡ true → x ≡ not y)
        → number_in (pick g (pick c (pick x (pick b (Ok d.size) (Err refusal.ShortBuffer)) (Err refusal.NotExpressible)) (Err refusal.MissingField)) (Err refusal.BadRecord))
        ≡ number_after g c y b
    go false c x y b h = refl
    go true false x y b h = refl
    go true true x true b h = rw (h refl)
    go true true x false true h = rw (h refl)
    go true true x false false h = rw (h refl)

written_number : (b : Bool) (k : ℕ) → number_in (pick b (Ok k) (Err refusal.ShortBuffer)) ≡ pick b 0 10
written_number true k = refl
written_number false k = refl

block_numbered : Numbered 9 (block first_edition)
unfolding write_as write_by
block_numbered r room k = go (is_good r) refl
  where
    go : (g : Bool) → is_good r ≡ g → number_in (write_by (block_of first_edition r) r room) ≡ number_after g true false (leb (block_of first_edition r).size room)
    go false e = simp e
    go true e = rw (block_answer first_edition first_sound r room e) (written_number (leb (block_of first_edition r).size room) (block_of first_edition r).size)

-- the half hour alone may have no word
frame_worded : (x : SignRule) (r : Record) → is_expressible (frame x).layout (encode r) ≡ not (not (eqb (encode_minutes r.offset % 30) 0))
frame_worded x r = frame_has_words x r ∙ simp half (sym (not_not (eqb (encode_minutes r.offset % 30) 0)))

form_numbered : (n : ℕ) → Numbered n (form_kind_of all_forms n)
unfolding is_expressible has has_words letters
form_numbered =
    by_number Numbered all_forms
    (sized_numbered 1 standard (λ r g. simp (two, three, zoned r g, or-false) (and-true _)) also sized_numbered 2 capture (λ r g. refl)
    also sized_numbered 3 erlangen (λ r g. simp two) also sized_numbered 4 spa (λ r g. refl) also sized_numbered 5 racal (λ r g. refl)
    also sized_numbered 6 sysplex (λ r g. simp two) also sized_numbered 7 computime (λ r g. refl)
    also sized_numbered 10 sat (λ r g. simp (two, three, zoned r g)) also sized_numbered 12 rmc (λ r g. simp two)
    also sized_numbered 8 (frame OneAbove) (λ r g. frame_worded OneAbove r) also sized_numbered 11 (frame OneBelow) (λ r g. frame_worded OneBelow r)
    also block_numbered also tt)
    (λ n r room k. absurd (false≢true k))

unknown_one : (l : FormKind) (r : Record) (room : ℕ) → is_known l ≡ false → number_in (write_as l r room) ≡ 1
unfolding write_as
unknown_one (sized d) r room h = absurd (false≢true (sym h))
unknown_one (block e) r room h = absurd (false≢true (sym h))
unknown_one unknown r room h = refl

-- 9 comes last of three tests
nine_after : (g c w b : Bool) → number_after g c w b ≡ 9 → (g ≡ true) × (c ≡ true) × (w ≡ true)
nine_after false c w b h = absurd (omega arith)
nine_after true false w b h = absurd (omega arith)
nine_after true true true b h = (refl, refl, refl)
nine_after true true false true h = absurd (omega arith)
nine_after true true false false h = absurd (omega arith)

only_nine : (n : ℕ) (r : Record) (room : ℕ) → number_in (write_as (form_kind_of all_forms n) r room) ≡ 9 → Passed n r × (has_no_word n r ≡ true)
unfolding has_carried_form
only_nine n r room h = go (is_known (form_kind_of all_forms n)) refl
  where
    go : (b : Bool) → is_known (form_kind_of all_forms n) ≡ b → Passed n r × (has_no_word n r ≡ true)
    go false e = let z = unknown_one (form_kind_of all_forms n) r room e in absurd (omega arith)
    go true e =
        let l = form_kind_of all_forms n in
        let a = nine_after (is_good r) (has_carried_as l r) (has_no_word n r) (leb (output_size l r) room) (sym (form_numbered n r room e) ∙ h) in
        (record { known = e; good = a.0; complete = a.1 }, a.2)

pub writer_numbers : WriterNumbers
unfolding write_form has_carried_form
writer_numbers =
    record {
      one = λ n r room. unknown_one (form_kind_of all_forms n) r room;
      others = λ n r room. form_numbered n r room;
      nine = λ n r room p w. form_numbered n r room p.known ∙ simp (p.good, p.complete, w);
      only_nine = λ n r room. only_nine n r room;
    }
