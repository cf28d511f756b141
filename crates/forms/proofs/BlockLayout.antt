-- Every layout chosen for the block's lines makes a sound form: the tests are computed over the variants of the lines.
use Rattle.cond.proofs.Kit.{[], ◌&&◌, ◌++◌, ◌<◌, ◌∙◌, ◌≡◌, arith, Bool, false, get_or, le-leb, leb, leb-true, length, List, lit<, ltb, ltb-true, refl, sym, true, ℕ}
use Rattle.cond.proofs.Tests.{both}
use Rattle.spelling.specs.Bytes.{all_are, is_word, same_bytes, letters}
use Rattle.spelling.proofs.Words.{all_different, all_long}
use Rattle.forms.specs.Block.{block_lines, chosen_layout}
use Rattle.forms.specs.Places.{Layout, has}
use Rattle.forms.specs.Slots.{Slot, altitude, among, checksum, day, half_hour, hour, hundredth, latitude_degrees, latitude_hundredth, latitude_minute, latitude_part, latitude_whole}
use Rattle.forms.specs.Slots.{longitude_degrees, longitude_hundredth, longitude_minute, longitude_part, longitude_whole, minus, minute, month, of_checksum, offset_hours}
use Rattle.forms.specs.Slots.{offset_minutes, ordinal, plus, second, south, ten_millionth, thousandth, west, year}
use Rattle.forms.proofs.Allowed.{all_words, allows_layout, up_to}
use Rattle.forms.proofs.Append.{allows_append, limit_append, sound_append, wide_append}
use Rattle.forms.proofs.ChecksumList.{checksums_sound}
use Rattle.forms.proofs.Checksums.{is_byte}
use Rattle.forms.proofs.Complete.{Complete, excluded, excludes, implied, implies}
use Rattle.forms.proofs.Fields.Date.{date_whole}
use Rattle.forms.proofs.Fields.Fraction.{fraction_whole}
use Rattle.forms.proofs.Fields.Offset.{offset_whole}
use Rattle.forms.proofs.Fields.Position.{position_whole}
use Rattle.forms.proofs.Variants.{form_of}
use Rattle.forms.proofs.Limits.{bound, most}
use Rattle.forms.proofs.Lines.{apart_chosen, choice_lt, every_variant, every_line, found_in, is_choice, lacks, lacks_layout, variant_passes, variant_in, only_in, layout_passes, stands_once}
use Rattle.forms.proofs.LayoutLimits.{limit_of}
use Rattle.forms.proofs.Layouts.{apart_layout, sound_layout}
use Rattle.forms.proofs.Slots.{◌and◌, every, every_slot, listed, none, of_time, slots}
use Rattle.forms.proofs.Sound.{SoundForm, wide_layout}

-- each variant of each line passes the tests of a layout

all_sound : every_line (every_variant sound_layout) block_lines ≡ true
unfolding every_line every_variant sound_layout all_long all_different is_word letters same_bytes
all_sound = refl

all_wide : every_line (every_variant (wide_layout [])) block_lines ≡ true
unfolding every_line every_variant wide_layout bound
all_wide = refl

all_bytes : every_line (every_variant (allows_layout is_byte)) block_lines ≡ true
unfolding every_line every_variant allows_layout all_are up_to all_words letters
all_bytes = refl

-- no more numbers than the slot may spell
abbrev is_meant : Slot → Layout → Bool
is_meant f ps = leb (limit_of ps f) (most f)

all_meant : every slots (λ (f : Slot). every_line (every_variant (is_meant f)) block_lines) ≡ true
unfolding every_line every_variant every limit_of most letters
all_meant = refl

meant_none : (f : Slot) → is_meant f [] ≡ true
unfolding limit_of
meant_none f = le-leb 0 (most f) (omega arith)

meant_append : (f : Slot) (a b : Layout) → is_meant f a ≡ true → is_meant f b ≡ true → is_meant f (a ++ b) ≡ true
meant_append f a b p q =
    le-leb (limit_of (a ++ b) f) (most f) (limit_append a b f (most f) (leb-true (limit_of a f) (most f) p) (leb-true (limit_of b f) (most f) q))

all_apart : every_line (every_variant apart_layout) block_lines ≡ true
unfolding every_line every_variant apart_layout has
all_apart = refl

all_once : every slots (stands_once block_lines) ≡ true
unfolding every_line every_variant every stands_once has
all_once = refl

-- line i alone has the two slots, and each of its variants passes a test of whether it has them
abbrev agree : ℕ → (Bool → Bool → Bool) → Slot → Slot → Bool
agree i t f g =
    ltb i (length block_lines) && (only_in block_lines i f && (only_in block_lines i g && every_variant (λ (ps : Layout). t (has ps f) (has ps g)) (get_or block_lines i [])))

-- the first of two slots stands there
abbrev first : Bool → Bool → Bool
first a b = a

module _ (cs : List ℕ) (o : is_choice block_lines cs ≡ true) where
  -- a slot that no other line has is told by the variant chosen for line i
  pub found : (i : ℕ) (f : Slot) → only_in block_lines i f ≡ true → has (chosen_layout block_lines cs) f ≡ has (variant_in block_lines cs i) f
  found = found_in block_lines cs o

  agreed : (i : ℕ) (t : Bool → Bool → Bool) (f g : Slot) → agree i t f g ≡ true → t (has (chosen_layout block_lines cs) f) (has (chosen_layout block_lines cs) g) ≡ true
  agreed i t f g h =
      let a = both (ltb i (length block_lines)) _ h in
      let b = both (only_in block_lines i f) _ a.1 in
      let c = both (only_in block_lines i g) _ b.1 in
      rw (found i f b.0, found i g c.0)
      (variant_passes (λ (ps : Layout). t (has ps f) (has ps g)) (get_or block_lines i []) (get_or cs i 0) (choice_lt block_lines cs o i (ltb-true i (length block_lines) a.0)) c.1)

  pub absent : (f : Slot) → every_line (every_variant (lacks f)) block_lines ≡ true → has (chosen_layout block_lines cs) f ≡ false
  absent f h = lacks_layout f block_lines cs o h

  -- a test of each variant of line i holds of the one that is chosen
  passes : (i : ℕ) (t : Layout → Bool) → i < length block_lines → every_variant t (get_or block_lines i []) ≡ true → t (variant_in block_lines cs i) ≡ true
  passes i t l h = variant_passes t (get_or block_lines i []) (get_or cs i 0) (choice_lt block_lines cs o i l) h

  -- the time is always told
  pub block_time : (f : Slot) → among f of_time ≡ true → has (chosen_layout block_lines cs) f ≡ true
  unfolding every_line every_variant only_in has
  block_time =
      listed (λ (f : Slot). has (chosen_layout block_lines cs) f ≡ true) of_time
      (agreed 1 first hour hour refl and agreed 1 first minute minute refl and agreed 1 first second second refl and none)

  block_complete : Complete (chosen_layout block_lines cs)
  unfolding every_line every_variant only_in has every
  block_complete =
      record {
        date = rw (found 0 year refl, found 0 month refl, found 0 day refl, found 0 ordinal refl) (passes 0 date_whole (lit< tt) refl);
        fraction = rw (found 2 thousandth refl, found 2 ten_millionth refl, found 2 hundredth refl) (passes 2 fraction_whole (lit< tt) refl);
        offset = rw (found 10 minus refl, found 10 plus refl, found 10 offset_hours refl, found 10 offset_minutes refl, found 10 half_hour refl) (passes 10 offset_whole (lit< tt) refl);
        position = rw (found 11 south refl, found 11 latitude_degrees refl, found 11 latitude_part refl, found 11 latitude_whole refl, found 11 latitude_minute refl, found 11 latitude_hundredth refl, found 11 west refl, found 11 longitude_degrees refl, found 11 longitude_part refl, found 11 longitude_whole refl, found 11 longitude_minute refl, found 11 longitude_hundredth refl, found 11 altitude refl) (passes 11 position_whole (lit< tt) refl);
        weekday = implied _ _ (agreed 0 implies Slot.weekday Slot.month refl);
        quality = excluded _ _ (agreed 4 excludes Slot.quality Slot.sync refl);
        utc = λ h. absent Slot.zone refl;
        summer = λ h. absent Slot.zone refl;
        change = λ h. absent Slot.notice refl;
        leap = λ h. absent Slot.notice refl;
        meant = λ f.
            leb-true _ _ (layout_passes (is_meant f) (meant_none f) (meant_append f) block_lines cs o (every_slot (λ (g : Slot). every_line (every_variant (is_meant g)) block_lines) all_meant f));
      }

  pub block_sound : SoundForm (form_of (chosen_layout block_lines cs))
  block_sound =
      record {
        sized = refl;
        layout_sound = layout_passes sound_layout (unfold sound_layout in refl) sound_append block_lines cs o all_sound;
        layout_apart = apart_chosen block_lines cs o all_apart (every_slot (stands_once block_lines) all_once);
        layout_wide = layout_passes (wide_layout []) (unfold wide_layout in refl) (wide_append []) block_lines cs o all_wide;
        layout_complete = block_complete;
        checked = listed (λ (f : Slot). has (chosen_layout block_lines cs) f ≡ true → false ≡ true) of_checksum
            ((λ h. sym (absent checksum (unfold every_line every_variant has in refl)) ∙ h) and none);
        checksums_pass = unfold checksums_sound in refl;
        layout_bytes = layout_passes (allows_layout is_byte) (unfold allows_layout in refl) (allows_append is_byte) block_lines cs o all_bytes;
      }
