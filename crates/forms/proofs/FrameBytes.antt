-- The bytes of a frame under a sign rule: what stands before, between and behind the sign and the parity does not hang on the rule, and the parity
-- hangs on it by the sign alone.
use Rattle.std.specs.Prelude.{Ok}
use Rattle.cond.proofs.Kit.{[], ◌%◌, ◌++◌, ◌+◌, ◌<◌, ◌∙◌, ◌∷◌, ◌≡◌, ap, append_assoc, ap₂, arith, Bool, drop, eq-eqb, eqb, false, get_or, length, length-append, List, ne_eqb, refl, suc, sym, take, take_at, true, zero, zero-add, ℕ}
use Rattle.cond.specs.Pick.{one_if}
use Rattle.spelling.specs.Bytes.{bits_of, groups_of, ones}
use Rattle.record.specs.Sign.{is_negative}
use Rattle.record.specs.declared.Record.{Record}
use Rattle.record.specs.declared.sign.SignRule.{SignRule}
use Rattle.record.specs.declared.sign.SignRule.TheVariants.{OneBelow}
use Rattle.forms.specs.Checksum.{checksum_by, checksum_of, even_ones, with_checksum}
use Rattle.forms.specs.Encode.{encode}
use Rattle.forms.specs.Fields.Offset.{minutes_of, sign_slot, told_by}
use Rattle.forms.specs.Form.{bytes_by, left_by, write_by}
use Rattle.forms.specs.Frame.{frame, frame_layout}
use Rattle.forms.specs.Places.{Layout, bytes_of}
use Rattle.forms.specs.Slots.{Values, checksum, half_hour}
use Rattle.forms.proofs.Append.{bytes_append}
use Rattle.forms.proofs.Fields.Offset.{encode_sign}
use Rattle.forms.proofs.Frames.{sign_stays}
use Rattle.forms.proofs.Keeps.{left_written}

-- the parity

ones_append : (a b : List ℕ) → ones (a ++ b) ≡ ones a + ones b
unfolding ones
ones_append [] b = sym (zero-add (ones b))
ones_append (x ∷ a) b = omega (arith, ones_append a b)

abbrev pub parity : List ℕ → List ℕ → ℕ → ℕ
parity a b sign = (ones a + (one_if (eqb sign 1) + ones b)) % 2

pub parity_differs : (a b : List ℕ) (p q : Bool) → eqb (parity a b (one_if p)) (parity a b (one_if q)) ≡ eqb (one_if p) (one_if q)
parity_differs a b true true = eq-eqb (parity a b 1) (parity a b 1) refl
parity_differs a b true false = ne_eqb (parity a b 1) (parity a b 0) (λ e. omega arith)
parity_differs a b false true = ne_eqb (parity a b 0) (parity a b 1) (λ e. omega arith)
parity_differs a b false false = eq-eqb (parity a b 0) (parity a b 0) refl

-- the ones that it is taken over
checked : (a b c : List ℕ) (p : ℕ) → length a ≡ 64 → length b ≡ 10 → take 74 (drop 1 (a ++ (p ∷ (b ++ c)))) ≡ drop 1 a ++ (p ∷ b)
checked [] b c p l m = absurd (omega arith)
checked (x ∷ a) b c p l m = ap (take 74) (sym (append_assoc a (p ∷ b) c)) ∙ take_at (a ++ (p ∷ b)) c 74 (length-append a (p ∷ b) ∙ omega arith)

checked_parity : (a b c : List ℕ) (p : ℕ) → length a ≡ 64 → length b ≡ 10 → ones (take 74 (drop 1 (a ++ (p ∷ (b ++ c))))) % 2 ≡ parity (drop 1 a) b p
unfolding ones
checked_parity a b c p l m = ap (λ (s : List ℕ). ones s % 2) (checked a b c p l m) ∙ ap (λ (n : ℕ). n % 2) (ones_append (drop 1 a) (p ∷ b))

-- the frame in pieces

abbrev front_layout : Layout
front_layout = take 18 (frame_layout OneBelow)

abbrev middle_layout : Layout
middle_layout = take 4 (drop 19 (frame_layout OneBelow))

abbrev pub back_layout : Layout
back_layout = drop 24 (frame_layout OneBelow)

in_pieces : (x : SignRule) (v : Values)
    → bytes_of (frame_layout x) v ≡ bytes_of front_layout v ++ (v (sign_slot x) % 2 ∷ (bytes_of middle_layout v ++ (v checksum % 2 ∷ bytes_of back_layout v)))
unfolding bytes_of bits_of
in_pieces x v =
    bytes_append front_layout (drop 18 (frame_layout x)) v
    ∙ ap (λ (l : List ℕ). bytes_of front_layout v ++ (v (sign_slot x) % 2 ∷ l)) (bytes_append middle_layout (drop 23 (frame_layout OneBelow)) v)

-- the checksum stands nowhere else
with_checksum_lem : (x : SignRule) (v : Values) (n : ℕ)
    → bytes_of (frame_layout x) (with_checksum v n) ≡ bytes_of front_layout v ++ (v (sign_slot x) % 2 ∷ (bytes_of middle_layout v ++ (n % 2 ∷ bytes_of back_layout v)))
unfolding bytes_of
with_checksum_lem x v n =
    in_pieces x (with_checksum v n)
    ∙ ap (λ (m : ℕ). bytes_of front_layout v ++ (m % 2 ∷ (bytes_of middle_layout v ++ (n % 2 ∷ bytes_of back_layout v)))) (sign_stays x v n)

half_long : (n : ℕ) → n < 2 → length {A = ℕ} (get_or ((0 ∷ []) ∷ (1 ∷ []) ∷ []) n []) ≡ 1
half_long zero l = refl
half_long (suc zero) l = refl
half_long (suc (suc n)) l = absurd (omega arith)

one_bit : (b : Bool) → one_if b % 2 ≡ one_if b
one_bit true = refl
one_bit false = refl

module _ (r : Record) (h : encode r half_hour < 2) where
  abbrev pub front : List ℕ
  front = bytes_of front_layout (encode r)

  abbrev pub middle : List ℕ
  middle = bytes_of middle_layout (encode r)

  pub front_long : length front ≡ 64
  unfolding bytes_of groups_of bits_of
  front_long = refl

  pub middle_long : length middle ≡ 10
  unfolding bytes_of bits_of
  middle_long = simp (length-append, half_long (encode r half_hour) h)

  -- its sign and its parity
  abbrev pub is_below : SignRule → Bool
  is_below x = is_negative (minutes_of (told_by x r.offset))

  abbrev pub sign : SignRule → ℕ
  sign x = one_if (is_below x)

  abbrev pub even : SignRule → ℕ
  even x = parity (drop 1 front) middle (sign x)

  frame_bytes : (x : SignRule) → bytes_by (frame x) (encode r) ≡ front ++ (sign x ∷ (middle ++ (even x ∷ bytes_of back_layout (encode r))))
  unfolding bytes_by
  frame_bytes x =
      let n = checksum_of (checksum_by even_ones 1 74) (bytes_of (frame_layout x) (encode r)) in
      let s : encode r (sign_slot x) % 2 ≡ sign x = ap (λ (m : ℕ). m % 2) (encode_sign x r) ∙ one_bit (is_below x) in
      let p : n ≡ even x = ap (checksum_of (checksum_by even_ones 1 74)) (in_pieces x (encode r)) ∙ checked_parity front middle _ _ front_long middle_long ∙ ap (parity (drop 1 front) middle) s in
      let q : n % 2 ≡ even x = omega arith in
      with_checksum_lem x (encode r) n ∙ ap₂ (λ (m k : ℕ). front ++ (m ∷ (middle ++ (k ∷ bytes_of back_layout (encode r))))) s q

  pub frame_left : (x : SignRule) (out : List ℕ) (k : ℕ) → write_by (frame x) r (length out) ≡ Ok k
      → left_by (frame x) r out ≡ front ++ (sign x ∷ (middle ++ (even x ∷ (bytes_of back_layout (encode r) ++ drop k out))))
  frame_left x out k w =
      left_written (frame x) r out k w ∙ ap (λ (l : List ℕ). l ++ drop k out) (frame_bytes x)
      ∙ append_assoc front _ (drop k out) ∙ ap (λ (l : List ℕ). front ++ (sign x ∷ l)) (append_assoc middle _ (drop k out))
