-- The yes or no fields: with a letter of their own, in pairs, or by the quality.
use Rattle.std.specs.Prelude.{Option, None, Some}
use Rattle.cond.proofs.Kit.{◌*◌, ◌+◌, ◌<◌, ◌∙◌, ◌≡◌, ap, arith, Bool, eqb, eqb-true, false, false≢true, lit<, refl, suc, true, zero, ℕ, ⊎_elim}
use Rattle.cond.specs.Pick.{one_if, pick}
use Rattle.cond.proofs.Tests.{either}
use Rattle.record.specs.Record.{is_yes}
use Rattle.forms.specs.Fields.Flag.{FlagKind, by_quality, first_kind, first_of_two, decode_flag, has_flag, is_carried, carried_flag, no_flag, own_kind, own_letter}
use Rattle.forms.specs.Fields.Flag.{quality_in_range, second_kind, second_of_two, sync_kind, yes_no}

-- two answers in one number, of which not both are yes
abbrev pub pair_of : Bool → Bool → ℕ
pair_of a b = one_if a * 2 + one_if b

-- a shared letter's answer
abbrev answer : Bool → Option Bool
answer b = Some b

-- decoded and encoded again

letter_encoded : (n : ℕ) → n < 2 → one_if (is_yes (yes_no n)) ≡ n
letter_encoded zero l = refl
letter_encoded (suc zero) l = refl
letter_encoded (suc (suc n)) l = absurd (omega arith)

pub own_encoded : (k : FlagKind) (own shared : ℕ) → k ≡ own_letter → own < 2 → one_if (is_yes (decode_flag k own shared)) ≡ own
unfolding decode_flag
own_encoded k own shared e l = rw e (letter_encoded own l)

pair_encoded : (n : ℕ) → n < 3 → pair_of (is_yes (answer (eqb n 2))) (is_yes (answer (eqb n 1))) ≡ n
pair_encoded zero l = refl
pair_encoded (suc zero) l = refl
pair_encoded (suc (suc zero)) l = refl
pair_encoded (suc (suc (suc n))) l = absurd (omega arith)

pub shared_encoded : (a b c : Bool) (x y n : ℕ) → a ≡ true → n < 3
    → pair_of (is_yes (decode_flag (first_kind a b) x n)) (is_yes (decode_flag (second_kind a c) y n)) ≡ n
unfolding decode_flag
shared_encoded true b c x y n h l = pair_encoded n l
shared_encoded false b c x y n h l = absurd (false≢true h)

pub quality_encoded : (k : FlagKind) (own n : ℕ) → k ≡ by_quality → quality_in_range n ≡ true → pick (is_yes (decode_flag k own n)) 0 15 ≡ n
unfolding decode_flag
quality_encoded k own n e h =
    rw e
    (⊎_elim (λ e. let q = eqb-true n 0 e in rw q refl) (λ e. let q = eqb-true n 15 e in rw q refl) (either (eqb n 0) (eqb n 15) h))

-- encoded and decoded again

letter_decoded : (x : Option Bool) (n : ℕ) → has_flag true x ≡ true → n ≡ one_if (is_yes x) → yes_no n ≡ x
letter_decoded None n h p = absurd (false≢true h)
letter_decoded (Some false) n h p = simp p
letter_decoded (Some true) n h p = simp p

answer_decoded : (x : Option Bool) (b : Bool) → has_flag true x ≡ true → b ≡ is_yes x → answer b ≡ x
answer_decoded None b h e = absurd (false≢true h)
answer_decoded (Some false) b h e = rw e refl
answer_decoded (Some true) b h e = rw e refl

pub own_decoded : (b : Bool) (x : Option Bool) (own shared : ℕ) → has_flag (is_carried (own_kind b)) x ≡ true → (b ≡ true → own ≡ one_if (is_yes x))
    → decode_flag (own_kind b) own shared ≡ carried_flag (is_carried (own_kind b)) x
unfolding decode_flag carried_flag
own_decoded true x own shared h p = letter_decoded x own h (p refl)
own_decoded false x own shared h p = refl

pairs : (a b : Bool) → pair_of a b < 3 → (eqb (pair_of a b) 2 ≡ a) × (eqb (pair_of a b) 1 ≡ b)
pairs false false h = (refl, refl)
pairs false true h = (refl, refl)
pairs true false h = (refl, refl)
pairs true true h = absurd (omega (arith, h))

-- a letter that two fields share, or the field's own
shared_decoded : (k : FlagKind) (a b : Bool) (x : Option Bool) (own shared : ℕ) → has_flag (is_carried (pick a k (own_kind b))) x ≡ true
    → (a ≡ true → has_flag (is_carried k) x ≡ true → decode_flag k own shared ≡ carried_flag (is_carried k) x) → (b ≡ true → own ≡ one_if (is_yes x))
    → decode_flag (pick a k (own_kind b)) own shared ≡ carried_flag (is_carried (pick a k (own_kind b))) x
shared_decoded k true b x own shared h p q = p refl h
shared_decoded k false b x own shared h p q = own_decoded b x own shared h q

module _ (a : Bool) (x y : Option Bool) (shared : ℕ) (l : a ≡ true → pair_of (is_yes x) (is_yes y) < 3) (e : a ≡ true → shared ≡ pair_of (is_yes x) (is_yes y)) where
  pub first_decoded : (b : Bool) (own : ℕ) → has_flag (is_carried (first_kind a b)) x ≡ true → (b ≡ true → own ≡ one_if (is_yes x))
      → decode_flag (first_kind a b) own shared ≡ carried_flag (is_carried (first_kind a b)) x
  unfolding decode_flag carried_flag
  first_decoded b own h =
      shared_decoded first_of_two a b x own shared h
      (λ i g. answer_decoded x (eqb shared 2) g (ap (λ (n : ℕ). eqb n 2) (e i) ∙ (pairs (is_yes x) (is_yes y) (l i)).0))

  pub second_decoded : (b : Bool) (own : ℕ) → has_flag (is_carried (second_kind a b)) y ≡ true → (b ≡ true → own ≡ one_if (is_yes y))
      → decode_flag (second_kind a b) own shared ≡ carried_flag (is_carried (second_kind a b)) y
  unfolding decode_flag carried_flag
  second_decoded b own h =
      shared_decoded second_of_two a b y own shared h
      (λ i g. answer_decoded y (eqb shared 1) g (ap (λ (n : ℕ). eqb n 1) (e i) ∙ (pairs (is_yes x) (is_yes y) (l i)).1))

quality_yes : (b : Bool) → eqb (pick b 0 15) 0 ≡ b
quality_yes false = refl
quality_yes true = refl

pub sync_decoded : (a b : Bool) (x : Option Bool) (own shared : ℕ) → has_flag (is_carried (sync_kind a b)) x ≡ true → (a ≡ true → own ≡ one_if (is_yes x))
    → (b ≡ true → shared ≡ pick (is_yes x) 0 15) → decode_flag (sync_kind a b) own shared ≡ carried_flag (is_carried (sync_kind a b)) x
unfolding decode_flag carried_flag
sync_decoded true b x own shared h p q = letter_decoded x own h (p refl)
sync_decoded false true x own shared h p q = answer_decoded x (eqb shared 0) h (ap (λ (n : ℕ). eqb n 0) (q refl) ∙ quality_yes (is_yes x))
sync_decoded false false x own shared h p q = refl

-- what is decoded is there and is carried

letter_there : (n : ℕ) → has_flag true (yes_no n) ≡ true
letter_there zero = refl
letter_there (suc n) = refl

answer_there : (b : Bool) → has_flag true (answer b) ≡ true
answer_there false = refl
answer_there true = refl

pub flag_carried : (k : FlagKind) (a b : ℕ) → (has_flag (is_carried k) (decode_flag k a b) ≡ true) × (carried_flag (is_carried k) (decode_flag k a b) ≡ decode_flag k a b)
unfolding decode_flag carried_flag
flag_carried no_flag a b = (refl, refl)
flag_carried own_letter a b = (letter_there a, refl)
flag_carried first_of_two a b = (answer_there (eqb b 2), refl)
flag_carried second_of_two a b = (answer_there (eqb b 1), refl)
flag_carried by_quality a b = (answer_there (eqb b 0), refl)

-- ranges

pub one_lt : (b : Bool) → one_if b < 2
one_lt false = lit< tt
one_lt true = lit< tt

-- a quality that a layout tells or not
pub quality_holds : (b t : Bool) (n : ℕ) → n ≡ pick b (pick t 0 15) 0 → quality_in_range n ≡ true
quality_holds true true n e = rw e refl
quality_holds true false n e = rw e refl
quality_holds false t n e = rw e refl
