-- The parts of the last line, stored one behind the other, are the line stored whole.
use Rattle.std.specs.Prelude.{Result, Ok, Err}
use Rattle.cond.proofs.Kit.{[], ◌++◌, ◌+◌, ◌/◌, ◌<◌, ◌∙◌, ◌∷◌, ◌≡◌, ◌≤◌, ap, arith, Bool, drop, false, le-leb, leb, length, length-append, List, lt-leb, ltb, refl, sets-eq, suc, sym, take, take_at, true, zero, ℕ}
use Rattle.cond.specs.Pick.{pick}
use Rattle.cond.proofs.Tests.{either_way}
use Rattle.spelling.specs.Bytes.{decimal, digit_of, text}
use Rattle.spelling.proofs.Base.{spelled_length}
use Rattle.spelling.specs.Stored.{stored}
use Rattle.spelling.proofs.Stored.{stored_append, stored_in, stored_length}
use Rattle.record.specs.declared.refusal.Refusal.{Refusal}
use Rattle.record.specs.declared.refusal.Refusal.TheVariants as refusal
use Rattle.report.specs.Summary.{Ended, end_answer, end_line, places_of, places_up_to}

-- one part in front of the rest
front : (v w o : List ℕ) (i j : ℕ) → i + length v ≡ j → i + length (v ++ w) ≤ length o → stored o i (v ++ w) ≡ stored (stored o i v) j w
front v w o i j e h =
    sym (stored_append o i v w (omega (arith, length-append v w))) ∙ ap (λ (n : ℕ). stored (stored o i v) n w) e

-- two keys with a value each, and a byte
module _ (k v l w : List ℕ) (x : ℕ) where
  parts_long : length (k ++ (v ++ (l ++ (w ++ (x ∷ []))))) ≡ length k + (length v + (length l + (length w + 1)))
  parts_long = rw (length-append, length-append, length-append, length-append)

  parts_stored : (o : List ℕ) (a b c d : ℕ) → 0 + length k ≡ a → a + length v ≡ b → b + length l ≡ c → c + length w ≡ d → d < length o
      → stored o 0 (k ++ (v ++ (l ++ (w ++ (x ∷ []))))) ≡ stored (stored (stored (stored (stored o 0 k) a v) b l) c w) d (x ∷ [])
  parts_stored o a b c d e f g h m =
      let p = length-append v (l ++ (w ++ (x ∷ []))) in
      let q = length-append l (w ++ (x ∷ [])) in
      let r = length-append w (x ∷ []) in
      let m₁ = stored_length o 0 k in
      let m₂ = stored_length (stored o 0 k) a v in
      let m₃ = stored_length (stored (stored o 0 k) a v) b l in
      front k (v ++ (l ++ (w ++ (x ∷ [])))) o 0 a e (omega (arith, parts_long))
      ∙ front v (l ++ (w ++ (x ∷ []))) (stored o 0 k) a b f (omega arith)
      ∙ front l (w ++ (x ∷ [])) (stored (stored o 0 k) a v) b c g (omega arith)
      ∙ front w (x ∷ []) (stored (stored (stored o 0 k) a v) b l) c d h (omega arith)

digits_long : (w n : ℕ) → length (decimal w n) ≡ w
digits_long w n = spelled_length 10 digit_of w n

module _ (bytes telegrams b t : ℕ) (eb : b ≡ places_of bytes) (et : t ≡ places_of telegrams) (o : List ℕ) where
  line_is : end_line bytes telegrams ≡ text "end bytes=" ++ (decimal b bytes ++ (text " telegrams=" ++ (decimal t telegrams ++ (10 ∷ []))))
  unfolding end_line
  line_is = rw (eb, et)

  line_long : length (end_line bytes telegrams) ≡ 10 + b + 11 + t + 1
  line_long =
      let parts = parts_long (text "end bytes=") (decimal b bytes) (text " telegrams=") (decimal t telegrams) 10 in
      omega (arith, ap length line_is, parts, digits_long b bytes, digits_long t telegrams)

  pub no_room : length o ≤ 10 + b + 11 + t → Ended bytes telegrams (Err refusal.ShortBuffer) o o
  unfolding end_answer
  no_room l = record { answer = rw (lt-leb (length (end_line bytes telegrams)) (length o) (omega (arith, line_long))); left = refl }

  pub ended : 10 + b + 11 + t < length o → (after : List ℕ)
      → after ≡ stored (stored (stored (stored (stored o 0 (text "end bytes=")) 10 (decimal b bytes)) (10 + b) (text " telegrams=")) (10 + b + 11)
      (decimal t telegrams)) (10 + b + 11 + t) (10 ∷ [])
      → Ended bytes telegrams (Ok (10 + b + 11 + t + 1)) o after
  unfolding end_answer
  ended l after h =
      let long = line_long in
      let z : 0 + length (end_line bytes telegrams) ≡ 10 + b + 11 + t + 1 = omega arith in
      let parts =
      parts_stored (text "end bytes=") (decimal b bytes) (text " telegrams=") (decimal t telegrams) 10 o 10 (10 + b) (10 + b + 11) (10 + b + 11 + t) refl
      (ap (λ (n : ℕ). 10 + n) (digits_long b bytes)) refl (ap (λ (n : ℕ). 10 + b + 11 + n) (digits_long t telegrams)) l in
      record {
        answer = rw (le-leb (length (end_line bytes telegrams)) (length o) (omega arith), long);
        left = h ∙ sym parts ∙ ap (stored o 0) (sym line_is) ∙ stored_in o 0 (end_line bytes telegrams) (omega arith) ∙ sets-eq (end_line bytes telegrams) o 0 (omega arith) ∙ rw z;
      }

-- what a caller may rely on: the line lies in the buffer, at its head
written : (t : Bool) (size n : ℕ) → Ok n ≡ pick t (Ok size) (Err refusal.ShortBuffer) → n ≡ size
written true size n h = cc
written false size n h = absurd (let z : ◌≡◌ {A = ℕ} 0 1 = cc in omega arith)

module _ {bytes telegrams : ℕ} {w : Result ℕ Refusal} {before after : List ℕ} (h : Ended bytes telegrams w before after) {n : ℕ} (e : w ≡ Ok n) where
  size : n ≡ length (end_line bytes telegrams)
  unfolding end_answer
  size = written (leb (length (end_line bytes telegrams)) (length before)) (length (end_line bytes telegrams)) n (sym e ∙ h.answer)

  line_left : after ≡ end_line bytes telegrams ++ drop n before
  line_left = h.left ∙ rw e

  pub ended_inside : n ≤ length after
  ended_inside = omega (arith, size, ap length line_left, length-append (end_line bytes telegrams) (drop n before))

  pub ended_text : take n after ≡ end_line bytes telegrams
  ended_text = rw line_left (take_at (end_line bytes telegrams) (drop n before) n (sym size))

-- where there is room for any line, none is refused
places_few : (t n : ℕ) → places_up_to t n ≤ t
unfolding places_up_to
places_few zero n = omega arith
places_few (suc t) n = either_way (ltb n 10) (λ e. rw e (omega arith)) (λ e. rw e (omega (arith, places_few t (n / 10))))

line_most : (bytes telegrams : ℕ) → length (end_line bytes telegrams) ≤ 62
unfolding places_of
line_most bytes telegrams =
    omega (arith, line_long bytes telegrams (places_of bytes) (places_of telegrams) refl refl [], places_few 20 bytes, places_few 20 telegrams)

pub not_short : {bytes telegrams : ℕ} {w : Result ℕ Refusal} {before after : List ℕ} → Ended bytes telegrams w before after → 62 ≤ length before
    → {x : Refusal} → w ≡ Err x → ⊥
unfolding end_answer
not_short {bytes} {telegrams} {before = before} h room e =
    let told : _ ≡ Ok (length (end_line bytes telegrams)) =
    h.answer ∙ rw (le-leb (length (end_line bytes telegrams)) (length before) (omega (arith, line_most bytes telegrams))) in
    let z : ◌≡◌ {A = ℕ} 0 1 = cc in
    omega arith
