-- The forms of one length pass the tests: demand 2 and the law of the start byte follow for each by its number.
use Rattle.std.specs.Prelude.{Ok}
use Rattle.cond.proofs.Kit.{[], ◌&&◌, ◌++◌, ◌∷◌, ◌≡◌, Bool, eqb, List, lit≤, refl, subst, true, ℕ}
use Rattle.cond.proofs.Tests.{both, either_way}
use Rattle.spelling.specs.Bytes.{all_are, groups_limit, groups_width, is_word, same_bytes, letters}
use Rattle.spelling.proofs.Groups.{full_groups, no_digit}
use Rattle.spelling.proofs.Words.{all_different, all_long}
use Rattle.record.specs.declared.Record.{Record}
use Rattle.forms.specs.Block.{first_edition}
use Rattle.forms.specs.Form.{Form, read_by}
use Rattle.forms.specs.Forms.{FormKind, Numbered, all_forms, block, form_kind_of, serial_forms, sized, unknown}
use Rattle.forms.specs.Places.{has, layout_width}
use Rattle.forms.specs.Serial.{rmc, spa}
use Rattle.forms.specs.Start.{OnlyAtHead, start_byte}
use Rattle.forms.specs.Valid.{end_byte, last_byte}
use Rattle.forms.proofs.Allowed.{all_groups, all_words, allows_layout, up_to}
use Rattle.forms.proofs.ByNumber.{by_number}
use Rattle.forms.proofs.ChecksumList.{checksums_sound}
use Rattle.forms.proofs.Checksums.{unchecked, unchecked_from}
use Rattle.forms.proofs.Complete.{is_complete}
use Rattle.forms.proofs.End.{end_byte_lem, ends_fixed}
use Rattle.forms.proofs.Keeps.{Keeps, sized_keeps, unknown_keeps}
use Rattle.forms.proofs.Limits.{bound, most}
use Rattle.forms.proofs.OneByte.{OneReplaced, one_replaced, stands, sum_over}
use Rattle.forms.proofs.LayoutLimits.{limit_of}
use Rattle.forms.proofs.Layouts.{apart_layout, sound_layout}
use Rattle.forms.proofs.Slots.{every}
use Rattle.forms.proofs.Sound.{is_sound_form, wide_layout}
use Rattle.forms.proofs.Start.{start_byte_lem, starts_with}
use Rattle.forms.proofs.Trips.{trips}

-- a test of every form of a list, and of no form
unfoldable pub all_pass : (FormKind → Bool) → List Numbered → Bool
all_pass t [] = t unknown
all_pass t (e ∷ es) = t e.kind && all_pass t es

-- what passes for each form of a list passes for the form of any number
pub variant_passes : (t : FormKind → Bool) (es : List Numbered) (n : ℕ) → all_pass t es ≡ true → t (form_kind_of es n) ≡ true
unfolding all_pass form_kind_of
variant_passes t [] n h = h
variant_passes t (e ∷ es) n h =
    let a = both (t e.kind) (all_pass t es) h in
    either_way (eqb n e.number) (λ q. rw q a.0) (λ q. rw q (variant_passes t es n a.1))

-- a test of a form, where it has one length
abbrev passes : (Form → Bool) → FormKind → Bool
passes t (sized d) = t d
passes t (block e) = true
passes t unknown = true

all_sound : all_pass (passes is_sound_form) all_forms ≡ true
unfolding all_pass is_sound_form layout_width sound_layout all_long all_different is_word letters same_bytes apart_layout has wide_layout is_complete every
    limit_of bound most unchecked_from unchecked checksums_sound all_are up_to all_words allows_layout all_groups groups_limit groups_width full_groups no_digit
all_sound = refl

-- a form passes what all of a list do
form_passes : (t : Form → Bool) (es : List Numbered) → all_pass (passes t) es ≡ true → (n : ℕ) (d : Form) → form_kind_of es n ≡ sized d → t d ≡ true
form_passes t es h n d e = subst (λ (l : FormKind). passes t l ≡ true) e (variant_passes (passes t) es n h)

front_passes : (t : FormKind → Bool) (a b : List Numbered) → t unknown ≡ true → all_pass t (a ++ b) ≡ true → all_pass t a ≡ true
unfolding all_pass
front_passes t [] b u h = u
front_passes t (e ∷ a) b u h =
    let p = both (t e.kind) (all_pass t (a ++ b)) h in
    simp (p.0, front_passes t a b u p.1)

-- demand 2 of a layout, from the test of a form of one length, or from what is shown of an edition of the block

abbrev Shown : FormKind → Type 0
Shown (sized d) = Unit {0}
Shown (block e) = Keeps (block e)
Shown unknown = Unit {0}

keeps : (l : FormKind) → passes is_sound_form l ≡ true → Shown l → Keeps l
keeps (sized d) h b = sized_keeps d (trips d h)
keeps (block e) h b = b
keeps unknown h b = unknown_keeps

-- demand 2 for every number, from the block's
pub form_keeps : Keeps (block first_edition) → (n : ℕ) → Keeps (form_kind_of all_forms n)
form_keeps b n =
    keeps (form_kind_of all_forms n) (variant_passes (passes is_sound_form) all_forms n all_sound)
    (by_number (λ m. Shown) all_forms (tt, (tt, (tt, (tt, (tt, (tt, (tt, (tt, (tt, (tt, (tt, (b, tt)))))))))))) (λ m. tt) n)

-- the serial forms

-- its start byte stands at the head alone, and it ends with a fixed byte
abbrev starts : Form → Bool
starts d = starts_with (start_byte d.layout) d.layout && ends_fixed d.layout

all_start : all_pass (passes starts) serial_forms ≡ true
unfolding all_pass all_are up_to all_words letters allows_layout starts_with ends_fixed
all_start = refl

serial_passes : all_pass (passes is_sound_form) serial_forms ≡ true
serial_passes = front_passes (passes is_sound_form) serial_forms _ refl all_sound

module _ (n : ℕ) (d : Form) (e : form_kind_of serial_forms n ≡ sized d) where
  pub serial_sound : is_sound_form d ≡ true
  serial_sound = form_passes is_sound_form serial_forms serial_passes n d e

  started : (starts_with (start_byte d.layout) d.layout ≡ true) × (ends_fixed d.layout ≡ true)
  started = both _ _ (form_passes starts serial_forms all_start n d e)

  pub serial_start : (s : List ℕ) (r : Record) → read_by d s ≡ Ok r → OnlyAtHead (start_byte d.layout) s
  serial_start = start_byte_lem d serial_sound (start_byte d.layout) started.0

  pub serial_end : (s : List ℕ) (r : Record) → read_by d s ≡ Ok r → last_byte s ≡ end_byte d.layout
  serial_end = end_byte_lem d serial_sound started.1

-- the sum of an SPA string, and that of an RMC string, runs over all that it tells and stands behind that

spa_sum : sum_over spa.layout 0 29 ≡ true
unfolding sum_over stands every
spa_sum = refl

rmc_sum : sum_over rmc.layout 1 59 ≡ true
unfolding sum_over stands every
rmc_sum = refl

pub spa_replaced : OneReplaced spa
unfolding form_kind_of
spa_replaced = one_replaced spa (serial_sound 4 spa refl) 0 29 refl (lit≤ tt) spa_sum

pub rmc_replaced : OneReplaced rmc
unfolding form_kind_of
rmc_replaced = one_replaced rmc (serial_sound 12 rmc refl) 1 59 refl (lit≤ tt) rmc_sum
