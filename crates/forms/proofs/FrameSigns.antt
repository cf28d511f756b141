-- The two frames of a record differ in the sign, where the offset is not zero, and then in the parity; in nothing else.
use Rattle.std.specs.Prelude.{Option, None, Some, ℤ}
use Rattle.cond.proofs.Kit.{[], ◌∙◌, ◌∷◌, ◌≡◌, ap, ap₂, Bool, drop, eqb, false, length, List, ltb-true, refl, suc, sym, zero, ℕ}
use lib.Dec.{eqb-suc-zero}
use lib.IntN.{negsuc, pos}
use Rattle.cond.specs.Pick.{pick}
use Rattle.record.specs.Answers.{number_in}
use Rattle.record.specs.declared.Record.{Record}
use Rattle.record.specs.declared.sign.SignRule.{SignRule}
use Rattle.record.specs.declared.sign.SignRule.TheVariants.{OneAbove, OneBelow}
use Rattle.record.proofs.Answers.{accepted_write}
use Rattle.forms.specs.Carries.{carries_of}
use Rattle.forms.specs.Encode.{encode}
use Rattle.forms.specs.Fields.Offset.{encode_minus, encode_minutes, opposite}
use Rattle.forms.specs.Form.{is_expressible, left_by, write_by}
use Rattle.forms.specs.Forms.{form_kind_of, frame_form, is_serial, left_as, left_form, read_as, read_form, write_as, write_form}
use Rattle.forms.specs.Frame.{frame}
use Rattle.forms.specs.FrameSigns.{FrameSigns, differences}
use Rattle.forms.specs.Places.{has, has_words}
use Rattle.forms.specs.Required.{has_carried}
use Rattle.forms.specs.Slots.{half_hour}
use Rattle.forms.proofs.Differences.{two_differ}
use Rattle.forms.proofs.FrameBytes.{frame_left, front, front_long, is_below, middle, middle_long, parity_differs}
use Rattle.forms.proofs.Frames.{frame_has_words}
use Rattle.forms.proofs.Opposites.{opposites}
use Rattle.forms.proofs.Trips.{taken_by}

sign_differs : (o : Option ℤ) → eqb (encode_minus (opposite o)) (encode_minus o) ≡ eqb (encode_minutes o) 0
sign_differs None = refl
sign_differs (Some (pos zero)) = refl
sign_differs (Some (pos (suc n))) = sym (eqb-suc-zero n)
sign_differs (Some (negsuc n)) = sym (eqb-suc-zero n)

-- what a writer asks does not hang on the sign
alike : (r : Record) (room : ℕ) → write_by (frame OneAbove) r room ≡ write_by (frame OneBelow) r room
unfolding write_by is_expressible has has_words carries_of has_carried
alike r room = refl

exactly : (r : Record) (out : List ℕ) → number_in (write_by (frame OneAbove) r (length out)) ≡ 0
    → differences 0 (left_by (frame OneAbove) r out) (left_by (frame OneBelow) r out) ≡ pick (eqb (encode_minutes r.offset) 0) [] (64 ∷ 75 ∷ [])
exactly r out n =
    let w = accepted_write (write_by (frame OneAbove) r (length out)) n in
    let words = sym (frame_has_words OneAbove r) ∙ (taken_by (frame OneAbove) r (length out) _ w).spellable in
    let h = ltb-true (encode r half_hour) 2 words in
    ap₂ (differences 0) (frame_left r h OneAbove out _ w) (frame_left r h OneBelow out _ (sym (alike r (length out)) ∙ w))
    ∙ two_differ (front r h) (middle r h) _ _ _ _ _ (front_long r h) (middle_long r h) (parity_differs (drop 1 (front r h)) (middle r h) (is_below r h OneAbove) (is_below r h OneBelow))
    ∙ ap (λ (z : Bool). pick z [] (64 ∷ 75 ∷ [])) (sign_differs r.offset)

not_serial : (x : SignRule) → is_serial (frame_form x) ≡ false
unfolding is_serial form_kind_of
not_serial OneAbove = refl
not_serial OneBelow = refl

pub frame_signs : FrameSigns
unfolding write_form left_form read_form form_kind_of write_as left_as read_as
frame_signs = record { alike = alike; exactly = exactly; not_serial = not_serial; opposites = opposites }
