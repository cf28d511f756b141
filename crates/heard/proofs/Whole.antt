-- The first line, and what is printed for all of the input.
use Rattle.cond.proofs.Kit.{[], ◌++◌, ◌-◌, ◌<◌, ◌^◌, ◌∙◌, ◌≡◌, ◌≤◌, ap, append-nil, arith, drop, drop_at, drop_of_length-le, false, length, length-append, length-take-le, List, ltb, ltb-false, ltb-true, take, take_all, take_at, true, ℕ}
use Rattle.std.proofs.Common.{IfSome, None, Some}
use Rattle.std.specs.declared.option.Option.{Option}
use Rattle.std.specs.Io.KnownBytes.{Appends, Consumes, IsAtEnd}
use Rattle.std.proofs.KnownBytes.{Appends-trans}
use Rattle.cond.proofs.Tests.{either_way}
use Rattle.forms.specs.Forms.{is_serial}
use Rattle.forms.specs.Valid.{length_of}
use Rattle.serial.proofs.Lengths.{not_serial, some_serial}
use Rattle.report.specs.Request.{form_of, refused_line}
use Rattle.report.specs.Summary.{end_line}
use Rattle.heard.specs.Answer.{answer_to, told}
use Rattle.heard.specs.Listened.{Listened}

-- the first n bytes of the input were read into the line, and y is left, which is nothing where the line is short
line_of : (line x y : List ℕ) (n : ℕ) → length line ≡ 2 → n ≤ length line → x ≡ take n line ++ y → (n < length line → y ≡ []) → take 2 x ≡ take n line
line_of line x y n two fits e short =
    let long = length-take-le n line fits in
    either_way (ltb n 2)
    (λ l.
    let none : y ≡ [] = short (omega (arith, ltb-true n 2 l)) in
    rw (e, none, append-nil) (take_all 2 (take n line) (omega arith)))
    (λ l.
    let is : length (take n line) ≡ 2 = omega (arith, ltb-false n 2 l) in
    rw e (take_at (take n line) y 2 is))

rest_of : (line x y : List ℕ) (n : ℕ) → length line ≡ 2 → n ≤ length line → x ≡ take n line ++ y → (n < length line → y ≡ []) → drop 2 x ≡ y
rest_of line x y n two fits e short =
    let long = length-take-le n line fits in
    either_way (ltb n 2)
    (λ l.
    let none : y ≡ [] = short (omega (arith, ltb-true n 2 l)) in
    rw (e, none, append-nil) (drop_of_length-le (take n line) {i = 2} (omega arith)))
    (λ l.
    let is : length (take n line) ≡ 2 = omega (arith, ltb-false n 2 l) in
    rw e (drop_at (take n line) y 2 is))

refused_is : (form : ℕ) (l x : List ℕ) → take 2 x ≡ l → form ≡ form_of l → length_of form ≡ 0 → answer_to x ≡ refused_line
unfolding answer_to
refused_is form l x e f z =
    let known : is_serial (form_of l) ≡ false = rw f at (not_serial form z) in
    rw (e, known)

told_is : (form : ℕ) (l x y : List ℕ) → take 2 x ≡ l → drop 2 x ≡ y → form ≡ form_of l → (length_of form ≡ 0 → ⊥) → answer_to x ≡ told form y
unfolding answer_to
told_is form l x y e d f z =
    let known : is_serial (form_of l) ≡ true = rw f at (some_serial form z) in
    rw (e, d, known, f)

-- what the contract of `run` says, where the first line is a bad one
pub all_refused : (line : List ℕ) (n form : ℕ) (left left' b b' : Option (List ℕ)) → length line ≡ 2 → n ≤ length line → Consumes left left' (take n line)
    → (n < length line → IsAtEnd left') → form ≡ form_of (take n line) → length_of form ≡ 0 → Appends b b' refused_line
    → IfSome left (λ x. length x < 2 ^ 64 - 65536 → Appends b b' (answer_to x))
all_refused line n form None left' b b' two fits taken end f z w = tt
all_refused line n form (Some x) None b b' two fits taken end f z w = absurd taken
all_refused line n form (Some x) (Some y) b b' two fits taken end f z w =
    λ few. rw (refused_is form (take n line) x (line_of line x y n two fits taken end) f z) w

-- the bytes that were heard are all that was left
all_taken : (y s : List ℕ) (left : Option (List ℕ)) → Consumes (Some y) left s → IsAtEnd left → y ≡ s
all_taken y s None taken end = absurd taken
all_taken y s (Some z) taken end = taken ∙ rw (end, append-nil)

few_taken : (y s : List ℕ) (left : Option (List ℕ)) → Consumes (Some y) left s → length s ≤ length y
few_taken y s None taken = absurd taken
few_taken y s (Some z) taken = omega (arith, ap length taken, length-append s z)

all_told : (form : ℕ) (y : List ℕ) (left b b' b'' : Option (List ℕ)) (bytes telegrams : ℕ) → (h : Listened form (Some y) left b b' bytes telegrams)
    → IsAtEnd left → Appends b' b'' (end_line bytes telegrams) → Appends b b'' (told form y)
unfolding told
all_told form y left b b' b'' bytes telegrams h end w =
    let all : y ≡ h.stream = all_taken y h.stream left h.taken end in
    let both : Appends b b'' (h.text ++ end_line bytes telegrams) = Appends-trans _ _ _ _ _ h.written w in
    rw all (rw (h.heard.all_printed, h.heard.all_counted, h.size) at both)

-- the same where the stream is listened to
pub all_heard : (line : List ℕ) (n form : ℕ) (left left' left'' b b' b'' : Option (List ℕ)) (bytes telegrams : ℕ) → length line ≡ 2 → n ≤ length line
    → Consumes left left' (take n line) → (n < length line → IsAtEnd left') → form ≡ form_of (take n line) → (length_of form ≡ 0 → ⊥)
    → Listened form left' left'' b b' bytes telegrams → (bytes < 2 ^ 64 - 65536 → IsAtEnd left'') → Appends b' b'' (end_line bytes telegrams)
    → IfSome left (λ x. length x < 2 ^ 64 - 65536 → Appends b b'' (answer_to x))
all_heard line n form None left' left'' b b' b'' bytes telegrams two fits taken end f z h last w = tt
all_heard line n form (Some x) None left'' b b' b'' bytes telegrams two fits taken end f z h last w = absurd taken
all_heard line n form (Some x) (Some y) left'' b b' b'' bytes telegrams two fits taken end f z h last w =
    λ few.
    let line_is = line_of line x y n two fits taken end in
    let rest_is = rest_of line x y n two fits taken end in
    let size : bytes < 2 ^ 64 - 65536 = omega (arith, h.size, few_taken y h.stream left'' h.taken, ap length taken, length-append (take n line) y) in
    rw (told_is form (take n line) x y line_is rest_is f z) (all_told form y left'' b b' b'' bytes telegrams h (last size) w)
