-- The frames of both sign rules: their numbers, and the half hour, which alone may have no word.
use Rattle.cond.proofs.Kit.{◌≡◌, and-true, List, ltb, refl, ℕ}
use Rattle.record.specs.declared.Record.{Record}
use Rattle.record.specs.declared.sign.SignRule.{SignRule}
use Rattle.record.specs.declared.sign.SignRule.TheVariants.{OneAbove, OneBelow}
use Rattle.forms.specs.Checksum.{with_checksum}
use Rattle.forms.specs.Encode.{encode}
use Rattle.forms.specs.Fields.Offset.{sign_slot}
use Rattle.forms.specs.Form.{is_expressible, read_by}
use Rattle.forms.specs.Forms.{all_forms, form_kind_of, frame_form, read_as, read_form, sized}
use Rattle.forms.specs.Frame.{frame}
use Rattle.forms.specs.Places.{has, has_words}
use Rattle.forms.specs.Slots.{Values, half_hour}

frame_kind : (x : SignRule) → form_kind_of all_forms (frame_form x) ≡ sized (frame x)
unfolding form_kind_of
frame_kind OneAbove = refl
frame_kind OneBelow = refl

-- a checksum leaves the sign alone
pub sign_stays : (x : SignRule) (v : Values) (n : ℕ) → with_checksum v n (sign_slot x) ≡ v (sign_slot x)
sign_stays OneAbove v n = refl
sign_stays OneBelow v n = refl

module _ (x : SignRule) where
  pub frame_read : (s : List ℕ) → read_form (frame_form x) s ≡ read_by (frame x) s
  unfolding read_form read_as
  frame_read s = rw (frame_kind x) refl

  pub frame_has_words : (r : Record) → is_expressible (frame x).layout (encode r) ≡ ltb (encode r half_hour) 2
  unfolding has_words has is_expressible
  frame_has_words r = and-true (ltb (encode r half_hour) 2)
