-- Accepted and written again: over any sound form, the writer takes the record and leaves the same bytes.
use Rattle.std.specs.Prelude.{Ok}
use Rattle.cond.proofs.Kit.{◌+◌, ◌∙◌, ◌≡◌, ap, arith, eqb-true, false, get_or, length, List, ltb-true, refl, subst, sym, true, ℕ}
use Rattle.cond.proofs.Tests.{both, both_hold, either_way}
use Rattle.record.specs.Record.{in_range, is_good, zone_agrees}
use Rattle.record.specs.declared.Record.{Record}
use Rattle.forms.specs.Carries.{carries_of}
use Rattle.forms.specs.Checksum.{Checksum, checksum_of, total_by}
use Rattle.forms.specs.Fields.Offset.{offset_kind, offset_consistent}
use Rattle.forms.specs.Fields.Position.{position_consistent, position_kind}
use Rattle.forms.specs.Form.{Form, bytes_by, carries, is_expressible, number_tests, numbers_in_range, range_tests, ranges, read_by, signs_consistent, consistency_tests, consistent, values_by}
use Rattle.forms.specs.CarriedPart.{carried_part}
use Rattle.forms.specs.Required.{has_carried}
use Rattle.forms.specs.Places.{has_words, bytes_of, has, layout_width}
use Rattle.forms.specs.Slots.{Slot, Values, hour, is_checksum, minute, offset_minutes, second}
use Rattle.forms.specs.Decode.{decode}
use Rattle.forms.specs.Encode.{encode}
use Rattle.forms.proofs.Accepted.{Accepted, accepted}
use Rattle.forms.proofs.All.{test_at}
use Rattle.forms.proofs.Bounds.{good, encode_lt}
use Rattle.forms.proofs.ChecksumList.{checksums_again}
use Rattle.forms.proofs.Checksums.{range_alike, unchecked_from}
use Rattle.forms.proofs.Encoded.{Read, decoded_has, decoded_carried, encoded_again}
use Rattle.forms.proofs.Room.{layout_room}
use Rattle.forms.proofs.Roomy.{layout_has_words}
use Rattle.forms.proofs.LayoutLimits.{layout_alike, unplaced, values_lt}
use Rattle.forms.proofs.Layouts.{roomy_layout, layout_write}
use Rattle.forms.proofs.Sound.{SoundForm}
use Rattle.forms.proofs.WriteRead.{own_value, encode_roomy, written}

pub record Rewritten (d : Form) (s : List ℕ) (r : Record) : Type 0 where
  pub good : is_good r ≡ true
  pub complete : has_carried (carries d) r ≡ true
  pub spellable : is_expressible d.layout (encode r) ≡ true
  pub same_bytes_lem : bytes_by d (encode r) ≡ s
  pub nothing_else : carried_part (carries d) r ≡ r

module _ (d : Form) (o : SoundForm d) (s : List ℕ) (r : Record) (a : Accepted d s r) where
  -- what the string tells, and the record that it spells
  v : Values
  v = values_by d s

  q : Record
  q = decode (carries d) (values_by d s)

  fills : 0 + layout_width d.layout ≡ length s
  fills = omega (arith, o.sized, a.long)

  ranged : (i : ℕ) → get_or (range_tests (carries d) (values_by d s)) i true ≡ true
  unfolding ranges
  ranged = test_at (range_tests (carries d) (values_by d s)) a.ranged

  numbered : (i : ℕ) → get_or (number_tests (values_by d s)) i true ≡ true
  unfolding numbers_in_range
  numbered = test_at (number_tests (values_by d s)) (ranged 2)

  is_consistent : (i : ℕ) → get_or (consistency_tests (carries d) (values_by d s)) i true ≡ true
  unfolding consistent
  is_consistent = test_at (consistency_tests (carries d) (values_by d s)) a.is_consistent

  good_record : is_good q ≡ true
  unfolding q is_good
  good_record = both_hold (in_range q) (zone_agrees q) (ranged 0) (is_consistent 4)

  known : Read d.layout v
  unfolding v q carries_of signs_consistent
  known =
      let signs = both (offset_consistent (offset_kind d.layout) (values_by d s)) (position_consistent (position_kind d.layout) (values_by d s)) (is_consistent 3) in
      record {
        small = λ f h. omega (arith, values_lt d.layout 0 s f o.layout_sound a.shaped h, o.layout_complete.meant f);
        dates = (good q good_record).date;
        minutes = ltb-true (values_by d s offset_minutes) 60 (numbered 1);
        quality = numbered 2;
        deletion = eqb-true (values_by d s Slot.deletion) 0 (numbered 3);
        arcs = numbered 0;
        weekdays = is_consistent 0;
        leaps = is_consistent 1;
        seconds = is_consistent 2;
        offsets = signs.0;
        positions = signs.1;
      }

  encoded : (f : Slot) → has d.layout f ≡ true → is_checksum f ≡ false → v f ≡ encode q f
  unfolding v q
  encoded f h n = sym (encoded_again d.layout o.layout_complete v known f h n)

  pub room : roomy_layout d.layout (values_by d s) ≡ true
  unfolding v
  room =
      layout_room d.checksums d.layout 0 s v o.layout_sound o.layout_wide o.layout_apart a.shaped (λ f h. refl)
      (λ f h n. omega (arith, encoded f h n, encode_lt q (good q good_record) f))

  pub own : bytes_of d.layout (values_by d s) ≡ s
  own = layout_write d.layout 0 s (values_by d s) o.layout_sound room o.layout_apart a.shaped fills (λ f h. refl)

  has_words_again : has_words d.layout (encode q) ≡ true
  unfolding v
  has_words_again = layout_has_words d.checksums d.layout v (encode q) o.layout_wide encoded room

  again : is_expressible d.layout (encode q) ≡ true
  unfolding v q is_expressible
  again = simp (unplaced d.layout 0 s hour, unplaced d.layout 0 s minute, unplaced d.layout 0 s second, has_words_again)

  -- the checksums of the record's bytes are those of the string
  same_checksum : (c : Checksum) → unchecked_from d.layout c.from c.count ≡ true → checksum_of c (bytes_of d.layout (encode q)) ≡ checksum_of c s
  unfolding v
  same_checksum c u =
      ap (total_by c.rule)
      (range_alike (encode q) v d.layout c.from c.count (λ f h n. sym (encoded f h n)) o.layout_sound (encode_roomy d o q good_record again) room u)
      ∙ ap (checksum_of c) own

  -- with them the record tells what the string tells
  checked_again : (f : Slot) → has d.layout f ≡ true → written d q f ≡ v f
  unfolding v
  checked_again f h =
      either_way (is_checksum f)
      (λ e. checksums_again d.layout d.checksums s (bytes_of d.layout (encode q)) v (encode q) o.checksums_pass same_checksum a.checked f (o.checked f e h))
      (λ e. own_value d o q good_record again f e ∙ sym (encoded f h e))

  rewritten : Rewritten d s q
  unfolding bytes_by q v
  rewritten =
      record {
        good = good_record;
        complete = decoded_has (carries d) (values_by d s);
        spellable = again;
        same_bytes_lem = layout_alike d.layout _ v checked_again ∙ own;
        nothing_else = decoded_carried (carries d) (values_by d s);
      }

-- an accepted input is a good record that the writer takes, with nothing else in it, and written again is the same bytes
pub read_write : (d : Form) → SoundForm d → (s : List ℕ) (r : Record) → read_by d s ≡ Ok r → Rewritten d s r
unfolding q
read_write d o s r h =
    let a = accepted d s r h in
    subst (Rewritten d s) a.spelled (rewritten d o s r a)
