-- The last two tests of a reader over any form: on the record alone where the layout tells nothing besides, on the weekday too where
-- it has a place for it.
use Rattle.std.specs.Prelude.{Some, Ok, Err}
use Rattle.cond.proofs.Kit.{[], ◌&&◌, ◌+◌, ◌||◌, ◌∙◌, ◌∷◌, ◌≡◌, and-true, ap, Bool, eqb, eqb-true, false, false≢true, length, List, not, not-true, refl, sym, true, ℕ}
use Rattle.cond.proofs.Tests.{either_way}
use Rattle.calendar.specs.Calendar.{is_date, weekday_of}
use Rattle.record.specs.declared.Date.TheVariants as DateIs
use Rattle.record.specs.declared.Record.{Record}
use Rattle.record.specs.declared.sign.SignRule.{SignRule}
use Rattle.record.specs.declared.sign.SignRule.TheVariants.{OneAbove, OneBelow}
use Rattle.record.specs.declared.refusal.Refusal.TheVariants as refusal
use Rattle.record.specs.Record.{channel_in_range, date_time_in_range, fraction_in_range, in_range, offset_in_range, position_in_range, rest_in_range, zone_agrees}
use Rattle.forms.specs.Carries.{carries_of}
use Rattle.forms.specs.Checksum.{checksums_hold}
use Rattle.forms.specs.Fields.Date.{decode_date, full_date, has_date, weekday_in_range, weekday_consistent}
use Rattle.forms.specs.Fields.Fraction.{no_fraction}
use Rattle.forms.specs.Fields.Offset.{no_offset, sign_rule, sign_slot}
use Rattle.forms.specs.Fields.Position.{no_position}
use Rattle.forms.specs.Fields.Flag.{decode_flag}
use Rattle.forms.specs.Fields.Sign.{sign_consistent}
use Rattle.forms.specs.Fields.Time.{leap_consistent, seconds_consistent}
use Rattle.forms.specs.Form.{Form, carries, validated, numbers_in_range, ranges, read_by, signs_consistent, consistent, values_by}
use Rattle.forms.specs.Places.{Layout, has, is_of, shape, values, width}
use Rattle.forms.specs.Slots.{Slot, Values, day, day_seconds, deletion, latitude_minute, leap_second, longitude_minute, minus, month, offset_minutes, plus, quality, same, south, utc, weekday, west, year, zone}
use Rattle.forms.specs.Decode.{decode, decode_channel, decode_fraction, decode_offset, decode_position}
use Rattle.forms.proofs.Accepted.{read_validated}
use Rattle.forms.proofs.Slots.{every, every_slot, slots}
use Rattle.places.specs.Validated.{verdict, verdict_on}
use Rattle.places.specs.Weekday.{exists, falls_on}
use Rattle.places.proofs.Tests.{disagreement, out_of_range, read_as_lem}
use Rattle.places.proofs.Weekday.{date_exists}

-- a slot without a place tells 0
nowhere : (ps : Layout) (k : ℕ) (s : List ℕ) (f : Slot) → has ps f ≡ false → values ps k s f ≡ 0
unfolding has values
nowhere [] k s f h = refl
nowhere (p ∷ ps) k s f h =
    either_way (is_of f p) (λ e. absurd (false≢true (sym (rw e at h)))) (λ e. rw e (nowhere ps (width p + k) s f (rw e at h)))

-- what a layout can tell beside its record and the weekday, and utc by a letter of its own
abbrev beside : List Slot
beside =
    leap_second ∷ day_seconds ∷ minus ∷ plus ∷ south ∷ latitude_minute ∷ west ∷ longitude_minute ∷ utc ∷ offset_minutes ∷ quality ∷ deletion ∷ []

abbrev among : List Slot → Slot → Bool
among [] f = false
among (g ∷ gs) f = same f g || among gs f

-- the layout has a place for none of them
abbrev pub is_lean : Layout → Bool
is_lean ps = every slots (λ f. not (among beside f && has ps f))

-- one letter never tells both fields
never_both : (n : ℕ) → not (eqb n 2 && eqb n 1) ≡ true
never_both z = either_way (eqb z 2) (λ e. rw (eqb-true z 2 e)) (λ e. simp e)

-- a date in range exists, so that it falls on a weekday where its weekday is that one
on_date : (r : Record) (y m d n : ℕ) (x t : Bool) → r.date ≡ Some (DateIs.Full y m d)
    → verdict (in_range r && x) (eqb n (weekday_of y m d) && t) r ≡ verdict (in_range r && x) (falls_on r.date n && t) r
unfolding verdict
on_date r y m d n x t e =
    either_way (in_range r)
    (λ q.
    let there : is_date y m d ≡ true = sym (ap exists e) ∙ date_exists r (ap (has_date full_date) e) q in
    simp (e, there))
    (λ q. simp q)

module _ (d : Form) (s : List ℕ) where
  abbrev v : Values
  v = values_by d s

  abbrev pub decoded : Record
  decoded = decode (carries d) v

  -- what is told twice, but for the weekday
  abbrev pub rest_consistent : Bool
  rest_consistent = leap_consistent (carries d).leap_second v && (seconds_consistent (carries d).day_seconds v && (signs_consistent (carries d).offset (carries d).position v && zone_agrees decoded))

  pub zone_agrees_lem : has d.layout utc ≡ false → zone_agrees decoded ≡ true
  unfolding zone_agrees carries_of decode_flag
  zone_agrees_lem h = rw h (either_way (has d.layout zone) (λ e. rw e (never_both (v zone))) (λ e. simp e))

  pub full_date_lem : has d.layout month ≡ true → decoded.date ≡ Some (DateIs.Full (v year) (v month) (v day))
  unfolding carries_of decode_date
  full_date_lem h = simp h

  pub validated_on : has d.layout weekday ≡ true → has d.layout month ≡ true
      → verdict_on decoded (v weekday) (numbers_in_range v) rest_consistent ≡ validated (carries d) v
  unfolding validated ranges consistent verdict carries_of weekday_consistent
  validated_on w m = sym (simp w (on_date decoded (v year) (v month) (v day) (v weekday) _ rest_consistent (full_date_lem m)))

  pub validated_off : has d.layout weekday ≡ false → verdict (in_range decoded && numbers_in_range v) rest_consistent decoded ≡ validated (carries d) v
  unfolding validated ranges consistent verdict carries_of weekday_consistent weekday_in_range
  validated_off w = sym (simp (w, and-true))

  module _ (h : is_lean d.layout ≡ true) where
    lacking : (f : Slot) → among beside f ≡ true → has d.layout f ≡ false
    lacking f m = not-true (has d.layout f) (simp m at (every_slot (λ f. not (among beside f && has d.layout f)) h f))

    none : (f : Slot) → among beside f ≡ true → v f ≡ 0
    none f m = nowhere d.layout 0 s f (lacking f m)

    pub numbers_lean : numbers_in_range v ≡ true
    unfolding numbers_in_range
    numbers_lean = simp (none offset_minutes refl, none quality refl, none deletion refl, none latitude_minute refl, none longitude_minute refl)

    no_sign : (x : SignRule) → v (sign_slot x) ≡ 0
    no_sign OneBelow = none minus refl
    no_sign OneAbove = none plus refl

    signs_lean : signs_consistent (carries d).offset (carries d).position v ≡ true
    unfolding signs_consistent sign_consistent
    signs_lean = simp (no_sign (sign_rule (carries d).offset), none south refl, none west refl)

    pub rest_lean : rest_consistent ≡ true
    unfolding carries_of leap_consistent seconds_consistent
    rest_lean = simp (lacking leap_second refl, lacking day_seconds refl, signs_lean) (zone_agrees_lem (lacking utc refl))

    validated_lean : has d.layout weekday ≡ true → has d.layout month ≡ true → verdict_on decoded (v weekday) true true ≡ validated (carries d) v
    validated_lean w m =
        ap (λ (t : Bool). verdict_on decoded (v weekday) t true) (sym numbers_lean)
        ∙ ap (λ (t : Bool). verdict_on decoded (v weekday) (numbers_in_range v) t) (sym rest_lean)
        ∙ validated_on w m

    validated_plain : has d.layout weekday ≡ false → verdict (in_range decoded) true decoded ≡ validated (carries d) v
    validated_plain w = simp (numbers_lean, rest_lean, and-true) at (validated_off w)

-- the ranges of what a form carries: with date and time those of the rest, which is absent but for what the form carries

pub both_ranged : (r : Record) (a c : Bool) → a ≡ date_time_in_range r → c ≡ rest_in_range r → (a && c) ≡ in_range r
unfolding in_range
both_ranged r a c f g = rw (f, g)

module _ (d : Form) (s : List ℕ) (r : Record) (e : r ≡ decoded d s) where
  module _ (o : (carries d).offset ≡ no_offset) (p : (carries d).position ≡ no_position) where
    pub captured : (x y : Bool) → x ≡ fraction_in_range r.fraction → y ≡ channel_in_range r.channel → (x && y) ≡ rest_in_range r
    unfolding decode_offset decode_position offset_in_range position_in_range
    captured x y f g = rw (f, g, e) (sym (simp (o, p, and-true)))

    module _ (c : (carries d).channel ≡ false) where
      pub divided : (x : Bool) → x ≡ fraction_in_range r.fraction → x ≡ rest_in_range r
      unfolding decode_channel channel_in_range
      divided x f = sym (and-true x) ∙ captured x true f (rw e (sym (simp c)))

      pub timed : (carries d).fraction ≡ no_fraction → (a : Bool) → a ≡ date_time_in_range r → a ≡ in_range r
      unfolding decode_fraction fraction_in_range
      timed f a g = sym (and-true a) ∙ both_ranged r a true g (divided true (rw e (sym (simp f))))

  pub sited : (carries d).channel ≡ false → (carries d).offset ≡ no_offset → (x y : Bool) → x ≡ fraction_in_range r.fraction → y ≡ position_in_range r.position
      → (x && y) ≡ rest_in_range r
  unfolding decode_channel decode_offset channel_in_range offset_in_range
  sited c o x y g h = rw (g, h, e) (sym (simp (c, o)))

  pub located : (carries d).fraction ≡ no_fraction → (carries d).channel ≡ false → (x y : Bool) → x ≡ offset_in_range r.offset → y ≡ position_in_range r.position
      → (x && y) ≡ rest_in_range r
  unfolding decode_fraction decode_channel fraction_in_range channel_in_range
  located f c x y g h = rw (g, h, e) (sym (simp (f, c)))

-- how a reader ends behind the tests of its bytes, where t tells the ranges and u what is told twice
pub record Ends (d : Form) (s : List ℕ) (r : Record) (t u : Bool) : Type 0 where
  pub ranged : t ≡ false → Err refusal.OutOfRange ≡ read_by d s
  pub agreed : t ≡ true → u ≡ false → Err refusal.Disagreement ≡ read_by d s
  pub told : t ≡ true → u ≡ true → Ok r ≡ read_by d s

-- of a string of the right length, shape, which was tested by b, and checksum that decodes to r
module _ (d : Form) (s : List ℕ) (l : length s ≡ d.size) (b : Bool) (h : b ≡ shape d.layout 0 s) (n : b ≡ true) (q : checksums_hold d.checksums s (values_by d s) ≡ true) where
  pub ends : (r : Record) (t u : Bool) → verdict t u r ≡ validated (carries d) (values_by d s) → Ends d s r t u
  ends r t u v =
      let e = v ∙ sym (read_validated d s l (sym h ∙ n) q) in
      record {
        ranged = λ x. out_of_range t u r x ∙ e;
        agreed = λ x y. disagreement t u r x y ∙ e;
        told = λ x y. read_as_lem t u r x y ∙ e;
      }

  -- t tells the record's ranges
  module _ (r : Record) (e : r ≡ decoded d s) (lean : is_lean d.layout ≡ true) (t : Bool) (f : t ≡ in_range r) where
    pub reads_plain : has d.layout weekday ≡ false → Ends d s r t true
    reads_plain w = ends r t true (rw (f, e) (validated_plain d s lean w))

    -- the weekday x is in range where o is true, and the date falls on it where u is
    pub reads_on : has d.layout weekday ≡ true → has d.layout month ≡ true → (x : ℕ) → x ≡ values_by d s weekday
        → (o u : Bool) → o ≡ weekday_in_range true x → u ≡ falls_on r.date x → Ends d s r (t && o) u
    reads_on w m x i o u j k = ends r (t && o) u (rw (k, j, f, e, i) (simp and-true at (validated_lean d s lean w m)))
