-- Written and read back: over any sound form, a record keeps exactly its carried fields.
use Rattle.std.specs.Prelude.{Ok}
use Rattle.cond.proofs.Kit.{[], ◌<◌, ◌||◌, ◌∙◌, ◌≡◌, ap, append-nil, arith, Bool, eqb, eqb-true, false, get_or, length, List, refl, sym, true, ℕ}
use Rattle.cond.specs.Pick.{pick}
use Rattle.record.specs.Record.{is_good}
use Rattle.record.specs.declared.Record.{Record}
use Rattle.forms.specs.Checksum.{checksums_hold, total_by, with_checksums}
use Rattle.forms.specs.Form.{Form, bytes_by, carries, express_tests, is_expressible, read_by, values_by}
use Rattle.forms.specs.CarriedPart.{carried_part}
use Rattle.forms.specs.Required.{has_carried}
use Rattle.forms.specs.Places.{bytes_of, has, shape}
use Rattle.forms.specs.Slots.{Slot, Values, half_hour, hour, is_checksum, minute, notice, of_checksum, second, zone}
use Rattle.forms.specs.Encode.{encode}
use Rattle.forms.proofs.Accepted.{read_validated}
use Rattle.forms.proofs.All.{test_at}
use Rattle.forms.proofs.Allowed.{layout_all}
use Rattle.forms.proofs.Bounds.{good, encode_lt}
use Rattle.forms.proofs.ChecksumList.{not_checked, other_value, written_hold}
use Rattle.forms.proofs.Checksums.{is_byte, range_alike}
use Rattle.forms.proofs.Validated.{Encodes, validated_carried}
use Rattle.forms.proofs.Limits.{bound, most}
use Rattle.forms.proofs.Roomy.{below_bounds, below_limits, layout_roomy, layout_has_words}
use Rattle.forms.proofs.LayoutLimits.{roomy_lt}
use Rattle.forms.proofs.Layouts.{bytes_length, roomy_layout, layout_read}
use Rattle.forms.proofs.Slots.{◌and◌, listed, none, of_time}
use Rattle.forms.proofs.Sound.{SoundForm}

-- the values that a form writes: the record's, with the checksums of bytes that tell none
abbrev pub written : Form → Record → Values
written d r = with_checksums d.checksums (bytes_of d.layout (encode r)) (encode r)

-- a record tells no checksum
encode_none : (r : Record) (f : Slot) → is_checksum f ≡ true → encode r f ≡ 0
encode_none r = listed (λ (f : Slot). encode r f ≡ 0) of_checksum (refl and none)

-- a part of the time is told or 0
time_encoded : (b : Bool) (n m : ℕ) → (b || eqb m 0) ≡ true → n ≡ pick b m 0 → n ≡ m
time_encoded true n m h e = e
time_encoded false n m h e = e ∙ sym (eqb-true m 0 h)

module _ (d : Form) (o : SoundForm d) (r : Record) (g : is_good r ≡ true) (w : is_expressible d.layout (encode r) ≡ true) where
  -- the tests of the time, and of the words
  expressed : (i : ℕ) → get_or (express_tests d.layout (encode r)) i true ≡ true
  unfolding is_expressible
  expressed = test_at (express_tests d.layout (encode r)) w

  lower : (f : Slot) → encode r f < bound f
  lower = encode_lt r (good r g)

  -- a slot that is no checksum's is the record's
  pub own_value : (f : Slot) → is_checksum f ≡ false → written d r f ≡ encode r f
  own_value f n = other_value d.checksums _ (encode r) f (not_checked d.layout d.checksums o.checksums_pass f n)

  pub encode_roomy : roomy_layout d.layout (encode r) ≡ true
  encode_roomy =
      layout_roomy d.checksums d.layout (encode r) o.layout_wide (expressed 3)
      (below_limits d.layout d.checksums (encode r) o.checksums_pass lower (encode_none r))
      (λ f n. lower f)

  pub written_roomy : roomy_layout d.layout (written d r) ≡ true
  written_roomy =
      layout_roomy d.checksums d.layout (written d r) o.layout_wide
      (layout_has_words d.checksums d.layout (encode r) (written d r) o.layout_wide (λ f h n. sym (own_value f n)) encode_roomy)
      (below_bounds d.checksums (encode r) _ (layout_all is_byte d.layout (encode r) o.layout_bytes) lower)
      (λ f n. rw (own_value f n) (lower f))

  long : length (bytes_of d.layout (written d r)) ≡ d.size
  long = bytes_length d.layout (written d r) o.layout_sound written_roomy ∙ o.sized

  -- what the bytes tell
  record Back : Type 0 where
    shaped : shape d.layout 0 (bytes_of d.layout (written d r)) ≡ true
    valued : (f : Slot) → values_by d (bytes_of d.layout (written d r)) f ≡ pick (has d.layout f) (written d r f) 0

  back : Back
  back =
      let s : List ℕ = bytes_of d.layout (written d r) in
      let p = layout_read d.layout 0 (written d r) [] [] s refl (sym (append-nil s)) o.layout_sound written_roomy in
      record { shaped = p.0; valued = p.1 }

  checked : checksums_hold d.checksums (bytes_of d.layout (written d r)) (values_by d (bytes_of d.layout (written d r))) ≡ true
  checked =
      written_hold d.layout d.checksums _ (bytes_of d.layout (encode r)) _ (encode r) o.checksums_pass
      (λ c u.
      ap (total_by c.rule)
      (range_alike (encode r) (written d r) d.layout c.from c.count (λ f h n. sym (own_value f n)) o.layout_sound encode_roomy written_roomy u))
      (λ f h i. back.valued f ∙ simp h)

  encodes : Encodes d.layout r (values_by d (bytes_of d.layout (written d r)))
  unfolding most
  encodes =
      let v : Values = values_by d (bytes_of d.layout (written d r)) in
      let values : (f : Slot) → is_checksum f ≡ false → v f ≡ pick (has d.layout f) (encode r f) 0 =
      λ f n. back.valued f ∙ ap (λ (x : ℕ). pick (has d.layout f) x 0) (own_value f n) in
      let below : (f : Slot) → has d.layout f ≡ true → encode r f < most f =
      λ f h. omega (arith, roomy_lt d.layout (encode r) f encode_roomy h, o.layout_complete.meant f) in
      record {
        values = values;
        time = listed (λ (f : Slot). v f ≡ encode r f) of_time
            (time_encoded (has d.layout hour) _ _ (expressed 0) (values hour refl)
            and time_encoded (has d.layout minute) _ _ (expressed 1) (values minute refl)
            and time_encoded (has d.layout second) _ _ (expressed 2) (values second refl)
            and none);
        zone = below zone;
        notice = below notice;
        half = λ h.
            let e : v half_hour ≡ encode r half_hour = values half_hour refl ∙ simp h in
            omega (arith, below half_hour h);
      }

  pub write_length : length (bytes_by d (encode r)) ≡ d.size
  unfolding bytes_by
  write_length = long

  pub write_read : has_carried (carries d) r ≡ true → read_by d (bytes_by d (encode r)) ≡ Ok (carried_part (carries d) r)
  unfolding bytes_by
  write_read h =
      read_validated d (bytes_of d.layout (written d r)) long back.shaped checked
      ∙ validated_carried d.layout o.layout_complete r (good r g) _ encodes h
