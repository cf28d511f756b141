-- Each field and the variants of its line in the block: the field's own variant takes and keeps it, and no other variant does both.
use Rattle.std.specs.Prelude.{Option, None, Some, ℤ}
use Rattle.cond.proofs.Kit.{[], ◌<◌, ◌∷◌, ◌≡◌, ◌≤◌, ap, arith, Bool, false, false≢true, get_or, length, lit≤, lt-ltb, ltb, refl, suc, sym, true, zero, ℕ}
use Rattle.record.specs.declared.Date.{Date}
use Rattle.record.specs.declared.Date.TheVariants as DateIs
use Rattle.record.specs.declared.Fraction.{Fraction}
use Rattle.record.specs.declared.Fraction.TheVariants as FractionIs
use Rattle.record.specs.declared.Position.{Position}
use Rattle.record.specs.declared.Position.TheVariants as PositionIs
use Rattle.spelling.specs.Bytes.{letters}
use Rattle.forms.specs.Block.{Line, channel_line, date_line, fraction_line, offset_line, position_line}
use Rattle.forms.specs.Carries.{carries_of}
use Rattle.forms.specs.Fields.Channel.{channel_choice, has_channel, carried_channel}
use Rattle.forms.specs.Fields.Date.{DateKind, date_choice, has_date, carried_date}
use Rattle.forms.specs.Fields.Fraction.{FractionKind, fraction_choice, has_fraction, carried_fraction}
use Rattle.forms.specs.Fields.Offset.{has_offset, carried_offset, offset_choice}
use Rattle.forms.specs.Fields.Position.{PositionKind, has_position, carried_position, position_choice}
use Rattle.forms.specs.Places.{Layout, has_words, has, layout_width}
use Rattle.forms.specs.Slots.{Slot, Values, minus, south, west}

-- a field and its own variant of the line: the line has it, it takes and keeps the field, has a word for every sign, and so many bytes
pub record Own {A : Type 0} (l : Line) (c : ℕ) (takes : Bool) (carried_part x : A) (least most : ℕ) : Type 0 where
  pub among : ltb c (length l) ≡ true
  pub taken : takes ≡ true
  pub whole : carried_part ≡ x
  pub has_word : (v : Values) → v minus < 2 → v south < 2 → v west < 2 → has_words (get_or l c []) v ≡ true
  pub low : least ≤ layout_width (get_or l c [])
  pub high : layout_width (get_or l c []) ≤ most

-- a variant whose words are no signs
plain : {A : Type 0} {l : Line} {c : ℕ} {takes : Bool} {carried_part x : A} {least most : ℕ} → ltb c (length l) ≡ true → takes ≡ true → carried_part ≡ x
    → ((v : Values) → has_words (get_or l c []) v ≡ true) → least ≤ layout_width (get_or l c []) → layout_width (get_or l c []) ≤ most → Own l c takes carried_part x least most
plain a b c d e f = record { among = a; taken = b; whole = c; has_word = λ v m s w. d v; low = e; high = f }

-- date

-- the kind of date that variant c of the line tells
abbrev pub date_in : ℕ → DateKind
date_in c = (carries_of (get_or date_line c [])).date

pub date_own : (x : Option Date) → Own date_line (date_choice x) (has_date (date_in (date_choice x)) x) (carried_date (date_in (date_choice x)) x) x 7 14
unfolding carries_of has carried_date has_words layout_width
date_own None = plain refl refl refl (λ v. refl) (lit≤ tt) (lit≤ tt)
date_own (Some (DateIs.Full y m d)) = plain refl refl refl (λ v. refl) (lit≤ tt) (lit≤ tt)
date_own (Some (DateIs.DayOfYear n)) = plain refl refl refl (λ v. refl) (lit≤ tt) (lit≤ tt)

pub date_choice_lem : (c : ℕ) (x : Option Date) → c < 3 → has_date (date_in c) x ≡ true → carried_date (date_in c) x ≡ x → date_choice x ≡ c
unfolding carries_of has carried_date
date_choice_lem zero x b h k = sym (ap date_choice k)
date_choice_lem (suc zero) None b h k = absurd (false≢true h)
date_choice_lem (suc zero) (Some (DateIs.Full y m d)) b h k = refl
date_choice_lem (suc zero) (Some (DateIs.DayOfYear n)) b h k = absurd (false≢true h)
date_choice_lem (suc (suc zero)) None b h k = absurd (false≢true h)
date_choice_lem (suc (suc zero)) (Some (DateIs.Full y m d)) b h k = sym (ap date_choice k)
date_choice_lem (suc (suc zero)) (Some (DateIs.DayOfYear n)) b h k = refl
date_choice_lem (suc (suc (suc c))) x b h k = absurd (omega arith)

-- fraction

abbrev pub fraction_in : ℕ → FractionKind
fraction_in c = (carries_of (get_or fraction_line c [])).fraction

pub fraction_own : (x : Option Fraction) → Own fraction_line (fraction_choice x) (has_fraction (fraction_in (fraction_choice x)) x) (carried_fraction (fraction_in (fraction_choice x)) x) x 11 17
unfolding carries_of has carried_fraction has_words layout_width
fraction_own None = plain refl refl refl (λ v. refl) (lit≤ tt) (lit≤ tt)
fraction_own (Some (FractionIs.Thousandths n)) = plain refl refl refl (λ v. refl) (lit≤ tt) (lit≤ tt)
fraction_own (Some (FractionIs.TenMillionths n)) = plain refl refl refl (λ v. refl) (lit≤ tt) (lit≤ tt)
fraction_own (Some (FractionIs.Hundredths n)) = plain refl refl refl (λ v. refl) (lit≤ tt) (lit≤ tt)

pub fraction_choice_lem : (c : ℕ) (x : Option Fraction) → c < 4 → has_fraction (fraction_in c) x ≡ true → carried_fraction (fraction_in c) x ≡ x → fraction_choice x ≡ c
unfolding carries_of has carried_fraction
fraction_choice_lem zero x b h k = sym (ap fraction_choice k)
fraction_choice_lem (suc zero) None b h k = absurd (false≢true h)
fraction_choice_lem (suc zero) (Some (FractionIs.Thousandths n)) b h k = refl
fraction_choice_lem (suc zero) (Some (FractionIs.TenMillionths n)) b h k = absurd (false≢true h)
fraction_choice_lem (suc zero) (Some (FractionIs.Hundredths n)) b h k = absurd (false≢true h)
fraction_choice_lem (suc (suc zero)) None b h k = absurd (false≢true h)
fraction_choice_lem (suc (suc zero)) (Some (FractionIs.Thousandths n)) b h k = absurd (false≢true h)
fraction_choice_lem (suc (suc zero)) (Some (FractionIs.TenMillionths n)) b h k = refl
fraction_choice_lem (suc (suc zero)) (Some (FractionIs.Hundredths n)) b h k = absurd (false≢true h)
fraction_choice_lem (suc (suc (suc zero))) None b h k = absurd (false≢true h)
fraction_choice_lem (suc (suc (suc zero))) (Some (FractionIs.Thousandths n)) b h k = absurd (false≢true h)
fraction_choice_lem (suc (suc (suc zero))) (Some (FractionIs.TenMillionths n)) b h k = absurd (false≢true h)
fraction_choice_lem (suc (suc (suc zero))) (Some (FractionIs.Hundredths n)) b h k = refl
fraction_choice_lem (suc (suc (suc (suc c)))) x b h k = absurd (omega arith)

-- channel and offset: the second variant tells the field

-- a variant other than the first
abbrev pub is_present : ℕ → Bool
is_present zero = false
is_present (suc c) = true

pub second_has : (a b : Layout) (f : Slot) (c : ℕ) → has a f ≡ false → has b f ≡ true → c < 2 → has (get_or (a ∷ b ∷ []) c []) f ≡ is_present c
second_has a b f zero p q l = p
second_has a b f (suc zero) p q l = q
second_has a b f (suc (suc c)) p q l = absurd (omega arith)

pub channel_own : (x : Option ℕ) → Own channel_line (channel_choice x) (has_channel (is_present (channel_choice x)) x) (carried_channel (is_present (channel_choice x)) x) x 10 10
unfolding carried_channel has_words layout_width
channel_own None = plain refl refl refl (λ v. refl) (lit≤ tt) (lit≤ tt)
channel_own (Some n) = plain refl refl refl (λ v. refl) (lit≤ tt) (lit≤ tt)

pub channel_choice_lem : (c : ℕ) (x : Option ℕ) → c < 2 → has_channel (is_present c) x ≡ true → carried_channel (is_present c) x ≡ x → channel_choice x ≡ c
unfolding carried_channel
channel_choice_lem zero x b h k = sym (ap channel_choice k)
channel_choice_lem (suc zero) None b h k = absurd (false≢true h)
channel_choice_lem (suc zero) (Some n) b h k = refl
channel_choice_lem (suc (suc c)) x b h k = absurd (omega arith)

pub offset_own : (x : Option ℤ) → Own offset_line (offset_choice x) (has_offset (is_present (offset_choice x)) x) (carried_offset (is_present (offset_choice x)) x) x 9 14
unfolding carried_offset has_words letters layout_width
offset_own None = plain refl refl refl (λ v. refl) (lit≤ tt) (lit≤ tt)
offset_own (Some z) =
    record { among = refl; taken = refl; whole = refl; has_word = λ v m s w. simp (lt-ltb (v minus) 2 m); low = lit≤ tt; high = lit≤ tt }

pub offset_choice_lem : (c : ℕ) (x : Option ℤ) → c < 2 → has_offset (is_present c) x ≡ true → carried_offset (is_present c) x ≡ x → offset_choice x ≡ c
unfolding carried_offset
offset_choice_lem zero x b h k = sym (ap offset_choice k)
offset_choice_lem (suc zero) None b h k = absurd (false≢true h)
offset_choice_lem (suc zero) (Some z) b h k = refl
offset_choice_lem (suc (suc c)) x b h k = absurd (omega arith)

-- position

abbrev pub position_in : ℕ → PositionKind
position_in c = (carries_of (get_or position_line c [])).position

pub position_own : (x : Option Position) → Own position_line (position_choice x) (has_position (position_in (position_choice x)) x) (carried_position (position_in (position_choice x)) x) x 11 34
unfolding carries_of has carried_position has_words letters layout_width
position_own None = plain refl refl refl (λ v. refl) (lit≤ tt) (lit≤ tt)
position_own (Some (PositionIs.Degrees lat lon alt)) =
    record { among = refl; taken = refl; whole = refl; has_word = λ v m s w. simp (lt-ltb (v south) 2 s, lt-ltb (v west) 2 w); low = lit≤ tt; high = lit≤ tt }
position_own (Some (PositionIs.Minutes lat lon)) =
    record { among = refl; taken = refl; whole = refl; has_word = λ v m s w. simp (lt-ltb (v south) 2 s, lt-ltb (v west) 2 w); low = lit≤ tt; high = lit≤ tt }

pub position_choice_lem : (c : ℕ) (x : Option Position) → c < 3 → has_position (position_in c) x ≡ true → carried_position (position_in c) x ≡ x → position_choice x ≡ c
unfolding carries_of has carried_position
position_choice_lem zero x b h k = sym (ap position_choice k)
position_choice_lem (suc zero) None b h k = absurd (false≢true h)
position_choice_lem (suc zero) (Some (PositionIs.Degrees lat lon alt)) b h k = refl
position_choice_lem (suc zero) (Some (PositionIs.Minutes lat lon)) b h k = absurd (false≢true h)
position_choice_lem (suc (suc zero)) None b h k = absurd (false≢true h)
position_choice_lem (suc (suc zero)) (Some (PositionIs.Degrees lat lon alt)) b h k = absurd (false≢true h)
position_choice_lem (suc (suc zero)) (Some (PositionIs.Minutes lat lon)) b h k = refl
position_choice_lem (suc (suc (suc c))) x b h k = absurd (omega arith)
