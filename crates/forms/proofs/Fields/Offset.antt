-- The offset: hours with minutes, or with a half hour, and a sign; what is told under a rule is the offset or its opposite, of the same minutes.
use Rattle.std.specs.Prelude.{Option, None, Some, ℤ}
use Rattle.cond.proofs.Kit.{◌%◌, ◌*◌, ◌/◌, ◌<◌, ◌∙◌, ◌≡◌, ◌≤◌, ap, arith, Bool, digits_div, digits_mod, eqb, eqb-true, false, false≢true, leb-true, nat_abs, refl, suc, sym, true, zero, ℕ}
use lib.IntN.{neg_ℤ-neg_ℤ}
use Rattle.cond.specs.Pick.{pick}
use Rattle.cond.proofs.Tests.{either_way, pick_le}
use Rattle.record.specs.Record.{offset_in_range}
use Rattle.record.specs.Sign.{is_negative}
use Rattle.record.specs.declared.Record.{Record}
use Rattle.record.specs.declared.sign.SignRule.{SignRule}
use Rattle.record.specs.declared.sign.SignRule.TheVariants.{OneAbove, OneBelow}
use Rattle.record.proofs.Signs.{nat_abs_opposite, nat_abs_signed}
use Rattle.forms.specs.Fields.Offset.{OffsetKind, half_hour_of, has_offset, in_half_hours, in_minutes, is_offset, carried_offset, encode_minus, decode_minutes}
use Rattle.forms.specs.Fields.Offset.{minutes_of, encode_minutes, no_offset, decode_offset, offset_kind, offset_slots, offset_consistent, opposite, sign_rule, sign_slot, told_by, told_sign}
use Rattle.forms.specs.Fields.Sign.{negative}
use Rattle.forms.specs.Places.{Layout, has}
use Rattle.forms.specs.Slots.{Slot, Values, among, half_hour, minus, offset_hours, offset_minutes}
use Rattle.forms.specs.Encode.{encode}
use Rattle.forms.proofs.Agrees.{agrees}
use Rattle.forms.proofs.Fields.Flag.{one_lt}
use Rattle.forms.proofs.Fields.Sign.{plus_consistent, sign_encoded, signs_consistent_lem, signed_decoded}
use Rattle.forms.proofs.Limits.{bound, most}
use Rattle.forms.proofs.Slots.{Each, ◌and◌, none, of_offset}

-- a layout has the slots of its kind of offset and no other
abbrev pub offset_whole : Layout → Bool
offset_whole ps = agrees of_offset (offset_slots (offset_kind ps)) (has ps)

-- what is told under a rule

pub opposite_minutes : (o : Option ℤ) → encode_minutes (opposite o) ≡ encode_minutes o
opposite_minutes None = refl
opposite_minutes (Some z) = nat_abs_opposite z

told_minutes : (x : SignRule) (o : Option ℤ) → encode_minutes (told_by x o) ≡ encode_minutes o
told_minutes OneBelow o = refl
told_minutes OneAbove o = opposite_minutes o

told_again : (x : SignRule) (o : Option ℤ) → told_by x (told_by x o) ≡ o
told_again OneBelow o = refl
told_again OneAbove None = refl
told_again OneAbove (Some z) = ap Some (neg_ℤ-neg_ℤ z)

told_there : (x : SignRule) (o : Option ℤ) → has_offset true (told_by x o) ≡ has_offset true o
told_there OneBelow o = refl
told_there OneAbove None = refl
told_there OneAbove (Some z) = refl

-- the slot of its sign
sign_among : (x : SignRule) → (among (sign_slot x) of_offset ≡ true) × (among (sign_slot x) (offset_slots (in_half_hours x)) ≡ true) × (most (sign_slot x) ≡ 2)
unfolding most
sign_among OneBelow = (refl, refl, refl)
sign_among OneAbove = (refl, refl, refl)

pub encode_sign : (x : SignRule) (r : Record) → encode r (sign_slot x) ≡ encode_minus (told_by x r.offset)
encode_sign OneBelow r = refl
encode_sign OneAbove r = refl

-- decoded and encoded again

half_hour_lem : (n : ℕ) → n < 2 → half_hour_of (n * 30) ≡ n
unfolding half_hour_of
half_hour_lem zero l = refl
half_hour_lem (suc zero) l = refl
half_hour_lem (suc (suc n)) l = absurd (omega arith)

module _ (v : Values) (r : Record) (t : v offset_minutes < 60) where
  pub offset_encoded : (k : OffsetKind) → r.offset ≡ told_by (sign_rule k) (decode_offset (is_offset k) (told_sign k v) (decode_minutes k v)) → offset_consistent k v ≡ true
      → ((f : Slot) → among f of_offset ≡ true → among f (offset_slots k) ≡ true → v f < most f) → Each (λ (f : Slot). encode r f ≡ v f) (offset_slots k)
  unfolding decode_offset decode_minutes most
  offset_encoded no_offset e s l = none
  offset_encoded in_minutes e s l =
      let m = ap encode_minutes e ∙ nat_abs_signed (negative (v minus)) _ in
      (ap encode_minus e ∙ sign_encoded (v minus) _ s (l minus refl refl))
      and (ap (λ (x : ℕ). x / 60) m ∙ digits_div (v offset_hours) t)
      and (ap (λ (x : ℕ). x % 60) m ∙ digits_mod (v offset_hours) t)
      and none
  offset_encoded (in_half_hours x) e s l =
      let m = ap encode_minutes e ∙ told_minutes x _ ∙ nat_abs_signed (negative (v (sign_slot x))) _ in
      let h = l half_hour refl refl in
      let q : v half_hour * 30 < 60 = omega arith in
      let a = sign_among x in
      (ap (λ (n : ℕ). n / 60) m ∙ digits_div (v offset_hours) q)
      and (ap (λ (n : ℕ). half_hour_of (n % 60)) m ∙ ap half_hour_of (digits_mod (v offset_hours) q) ∙ half_hour_lem (v half_hour) h)
      and (encode_sign x r ∙ ap (λ o. encode_minus (told_by x o)) e ∙ ap encode_minus (told_again x _) ∙ sign_encoded _ _ s (rw a.2 at (l (sign_slot x) a.0 a.1)))
      and none

-- encoded and decoded again

-- an offset that has a half hour's element is a whole number of half hours
half_hours : (n h : ℕ) → h ≡ half_hour_of n → h < 2 → h * 30 ≡ n
unfolding half_hour_of
half_hours n h e l =
    either_way (eqb n 0) (λ p. omega (arith, eqb-true n 0 p, simp p at e))
    (λ p. either_way (eqb n 30) (λ q. omega (arith, eqb-true n 30 q, simp (p, q) at e)) (λ q. absurd (omega (arith, simp (p, q) at e))))

minutes_again : (x : Option ℤ) (sign n : ℕ) → has_offset true x ≡ true → sign ≡ encode_minus x → n ≡ encode_minutes x → decode_offset true sign n ≡ x
unfolding decode_offset
minutes_again None sign n h p q = absurd (false≢true h)
minutes_again (Some z) sign n h p q = ap Some (signed_decoded z sign n p q)

module _ (r : Record) (v : Values) where
  -- what the values of the record's own offset are
  abbrev pub Offsets : OffsetKind → Type 0
  Offsets k =
      ((f : Slot) → among f of_offset ≡ true → among f (offset_slots k) ≡ true → v f ≡ encode r f)
      × (among half_hour (offset_slots k) ≡ true → v half_hour < 2)

  minutes_decoded : (k : OffsetKind) → Offsets k → is_offset k ≡ true → decode_minutes k v ≡ encode_minutes r.offset
  unfolding decode_minutes
  minutes_decoded no_offset e i = absurd (false≢true i)
  minutes_decoded in_minutes e i = omega (arith, e.0 offset_hours refl refl, e.0 offset_minutes refl refl)
  minutes_decoded (in_half_hours x) e i =
      omega (arith, e.0 offset_hours refl refl, half_hours (encode_minutes r.offset % 60) (v half_hour) (e.0 half_hour refl refl) (e.1 refl))

  sign_told : (x : SignRule) → Offsets (in_half_hours x) → v (sign_slot x) ≡ encode_minus (told_by x r.offset)
  sign_told x e = let a = sign_among x in e.0 (sign_slot x) a.0 a.1 ∙ encode_sign x r

  minutes_told : (x : SignRule) → Offsets (in_half_hours x) → decode_minutes (in_half_hours x) v ≡ encode_minutes (told_by x r.offset)
  minutes_told x e = minutes_decoded (in_half_hours x) e refl ∙ sym (told_minutes x r.offset)

  pub offset_decoded : (k : OffsetKind) → has_offset (is_offset k) r.offset ≡ true → Offsets k
      → told_by (sign_rule k) (decode_offset (is_offset k) (told_sign k v) (decode_minutes k v)) ≡ carried_offset (is_offset k) r.offset
  unfolding carried_offset
  offset_decoded no_offset h e = unfold decode_offset in refl
  offset_decoded in_minutes h e = minutes_again r.offset (v minus) _ h (e.0 minus refl refl) (minutes_decoded in_minutes e refl)
  offset_decoded (in_half_hours x) h e =
      ap (told_by x) (minutes_again (told_by x r.offset) _ _ (told_there x r.offset ∙ h) (sign_told x e) (minutes_told x e)) ∙ told_again x r.offset

  -- its sign agrees
  pub offset_consistent_lem : (k : OffsetKind) → Offsets k → (among minus (offset_slots k) ≡ false → v minus ≡ 0) → offset_consistent k v ≡ true
  offset_consistent_lem no_offset e z = plus_consistent (v minus) _ (z refl)
  offset_consistent_lem in_minutes e z = signs_consistent_lem (minutes_of r.offset) (v minus) _ (e.0 minus refl refl) (minutes_decoded in_minutes e refl)
  offset_consistent_lem (in_half_hours x) e z = signs_consistent_lem (minutes_of (told_by x r.offset)) _ _ (sign_told x e) (minutes_told x e)

-- what is decoded is there and is carried
pub offset_carried : (x : SignRule) (k : Bool) (a n : ℕ)
    → (has_offset k (told_by x (decode_offset k a n)) ≡ true) × (carried_offset k (told_by x (decode_offset k a n)) ≡ told_by x (decode_offset k a n))
unfolding decode_offset carried_offset
offset_carried OneBelow false a n = (refl, refl)
offset_carried OneAbove false a n = (refl, refl)
offset_carried x true a n = (told_there x _, refl)

-- ranges

offset_lt : (x : Option ℤ) → offset_in_range x ≡ true → encode_minutes x ≤ 840
unfolding offset_in_range
offset_lt None e = omega arith
offset_lt (Some z) e = leb-true (nat_abs z) 840 e

half_lt : (n : ℕ) → half_hour_of n < 3
unfolding half_hour_of
half_lt n = omega (arith, pick_le (eqb n 0) 0 _ 2 (omega arith) (pick_le (eqb n 30) 1 2 2 (omega arith) (omega arith)))

pub offset_lts : (r : Record) → offset_in_range r.offset ≡ true → Each (λ (f : Slot). encode r f < bound f) of_offset
unfolding bound
offset_lts r h =
    let t = offset_lt r.offset h in
    let hours : encode_minutes r.offset / 60 < 15 = omega arith in
    let minutes : encode_minutes r.offset % 60 < 60 = omega arith in
    one_lt (is_negative (minutes_of r.offset)) and one_lt (is_negative (minutes_of (opposite r.offset))) and hours and minutes and half_lt (encode_minutes r.offset % 60) and none

pub offset_stays : (k : Bool) (x : Option ℤ) → offset_in_range x ≡ true → offset_in_range (carried_offset k x) ≡ true
unfolding offset_in_range carried_offset
offset_stays false x h = refl
offset_stays true x h = h

-- minutes that a layout tells or not
pub minutes_lt : (b : Bool) (n m : ℕ) → n ≡ pick b (m % 60) 0 → n < 60
minutes_lt true n m e = omega arith
minutes_lt false n m e = omega arith
