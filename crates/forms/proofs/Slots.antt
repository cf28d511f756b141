-- Slots are told apart by their numbers, and a claim of all slots is one of each in a list.
use Rattle.cond.proofs.Kit.{[], ◌&&◌, ◌++◌, ◌∙◌, ◌∷◌, ◌≡◌, ◌⊎◌, ap, Bool, eq-eqb, eqb-true, false, false≢true, get_or, inl, inr, List, refl, subst, suc, sym, true, zero, ℕ, ⊎_elim}
use Rattle.cond.proofs.Tests.{both, either, or_left, or_right}
use Rattle.forms.specs.Slots.{altitude, among, change, channel, checksum, day, day_seconds, deletion, dsp, fix, half_hour, hour, hundredth}
use Rattle.forms.specs.Slots.{is_checksum, latitude_degrees, latitude_hundredth, latitude_minute, latitude_part, latitude_whole, leap, leap_second}
use Rattle.forms.specs.Slots.{longitude_degrees, longitude_hundredth, longitude_minute, longitude_part, longitude_whole, lsp, minus, minute}
use Rattle.forms.specs.Slots.{month, notice, of_checksum, offset_hours, offset_minutes, ordinal, plus, quality, same, second, Slot, slot_number}
use Rattle.forms.specs.Slots.{south, summer, sync, ten_millionth, thousandth, utc, weekday, west, year, zone}

-- the slots by what they tell, in the order of their numbers

abbrev pub of_time : List Slot
of_time = hour ∷ minute ∷ second ∷ []

-- what follows from other fields
abbrev pub derived : List Slot
derived = weekday ∷ leap_second ∷ deletion ∷ day_seconds ∷ []

abbrev pub of_date : List Slot
of_date = year ∷ month ∷ day ∷ ordinal ∷ []

abbrev pub of_fraction : List Slot
of_fraction = thousandth ∷ ten_millionth ∷ hundredth ∷ []

abbrev pub of_channel : List Slot
of_channel = channel ∷ []

abbrev pub of_flags : List Slot
of_flags = sync ∷ quality ∷ fix ∷ zone ∷ utc ∷ summer ∷ notice ∷ change ∷ leap ∷ dsp ∷ lsp ∷ []

abbrev pub of_offset : List Slot
of_offset = minus ∷ plus ∷ offset_hours ∷ offset_minutes ∷ half_hour ∷ []

abbrev pub of_position : List Slot
of_position =
    south ∷ latitude_degrees ∷ latitude_part ∷ latitude_whole ∷ latitude_minute ∷ latitude_hundredth
    ∷ west ∷ longitude_degrees ∷ longitude_part ∷ longitude_whole ∷ longitude_minute ∷ longitude_hundredth ∷ altitude ∷ []

-- all that tell something of the record
abbrev pub field_slots : List Slot
field_slots = of_time ++ derived ++ of_date ++ of_fraction ++ of_channel ++ of_flags ++ of_offset ++ of_position

abbrev pub slots : List Slot
slots = field_slots ++ of_checksum

slot_at : (f : Slot) → get_or slots (slot_number f) hour ≡ f
slot_at hour = refl
slot_at minute = refl
slot_at second = refl
slot_at weekday = refl
slot_at leap_second = refl
slot_at deletion = refl
slot_at day_seconds = refl
slot_at year = refl
slot_at month = refl
slot_at day = refl
slot_at ordinal = refl
slot_at thousandth = refl
slot_at ten_millionth = refl
slot_at hundredth = refl
slot_at channel = refl
slot_at sync = refl
slot_at quality = refl
slot_at fix = refl
slot_at zone = refl
slot_at utc = refl
slot_at summer = refl
slot_at notice = refl
slot_at change = refl
slot_at leap = refl
slot_at dsp = refl
slot_at lsp = refl
slot_at minus = refl
slot_at plus = refl
slot_at offset_hours = refl
slot_at offset_minutes = refl
slot_at half_hour = refl
slot_at south = refl
slot_at latitude_degrees = refl
slot_at latitude_part = refl
slot_at latitude_whole = refl
slot_at latitude_minute = refl
slot_at latitude_hundredth = refl
slot_at west = refl
slot_at longitude_degrees = refl
slot_at longitude_part = refl
slot_at longitude_whole = refl
slot_at longitude_minute = refl
slot_at longitude_hundredth = refl
slot_at altitude = refl
slot_at checksum = refl

pub same_slot : (f g : Slot) → same f g ≡ true → f ≡ g
same_slot f g h = sym (slot_at f) ∙ ap (λ (n : ℕ). get_or slots n hour) (eqb-true (slot_number f) (slot_number g) h) ∙ slot_at g

pub slot_self : (f : Slot) → same f f ≡ true
slot_self f = eq-eqb (slot_number f) (slot_number f) refl

-- a claim of each slot of a list
infixr 1 ◌and◌
pub data Each (P : Slot → Type 0) : List Slot → Type 0 where
  none : Each P []
  ◌and◌ : {f : Slot} {fs : List Slot} → P f → Each P fs → Each P (f ∷ fs)

infixr 1 ◌then◌
pub ◌then◌ : {P : Slot → Type 0} {a b : List Slot} → Each P a → Each P b → Each P (a ++ b)
none then q = q
(p and ps) then q = p and (ps then q)

pub listed : (P : Slot → Type 0) (fs : List Slot) → Each P fs → (f : Slot) → among f fs ≡ true → P f
listed P [] none f h = absurd (false≢true h)
listed P (g ∷ fs) (p and ps) f h = ⊎_elim (λ e. subst P (sym (same_slot f g e)) p) (λ e. listed P fs ps f e) (either (same f g) (among f fs) h)

pub each : (P : Slot → Type 0) (fs : List Slot) → ((f : Slot) → among f fs ≡ true → P f) → Each P fs
each P [] p = none
each P (f ∷ fs) p = p f (or_left (same f f) (among f fs) (slot_self f)) and each P fs (λ g h. p g (or_right (same g f) (among g fs) h))

get_d_among : (f : Slot) (fs : List Slot) (n : ℕ) → get_or fs n hour ≡ f → (among f fs ≡ true) ⊎ (hour ≡ f)
get_d_among f [] n e = inr e
get_d_among f (g ∷ fs) zero e = inl (or_left (same f g) (among f fs) (rw e (slot_self f)))
get_d_among f (g ∷ fs) (suc n) e = ⊎_elim (λ h. inl (or_right (same f g) (among f fs) h)) (λ h. inr h) (get_d_among f fs n e)

-- every slot is in the list
pub slot_among : (f : Slot) → among f slots ≡ true
slot_among f = ⊎_elim (λ h. h) (λ e. subst (λ (g : Slot). among g slots ≡ true) e refl) (get_d_among f slots (slot_number f) (slot_at f))

among_append : (f : Slot) (a b : List Slot) → among f (a ++ b) ≡ true → (among f a ≡ true) ⊎ (among f b ≡ true)
among_append f [] b h = inr h
among_append f (g ∷ a) b h =
    ⊎_elim
    (λ e. inl (or_left (same f g) (among f a) e))
    (λ e. ⊎_elim (λ i. inl (or_right (same f g) (among f a) i)) (λ i. inr i) (among_append f a b e))
    (either (same f g) (among f (a ++ b)) h)

pub field_slot : (f : Slot) → is_checksum f ≡ false → among f field_slots ≡ true
field_slot f n = ⊎_elim (λ h. h) (λ h. absurd (false≢true (sym n ∙ h))) (among_append f field_slots of_checksum (slot_among f))

-- a claim of every slot
pub every_each : (P : Slot → Type 0) → Each P slots → (f : Slot) → P f
every_each P p f = listed P slots p f (slot_among f)

-- a test of every slot
unfoldable pub every : List Slot → (Slot → Bool) → Bool
every [] t = true
every (f ∷ fs) t = t f && every fs t

every_of : (fs : List Slot) (t : Slot → Bool) → every fs t ≡ true → Each (λ (f : Slot). t f ≡ true) fs
unfolding every
every_of [] t h = none
every_of (f ∷ fs) t h =
    let e = both (t f) (every fs t) h in
    e.0 and every_of fs t e.1

pub every_in : (fs : List Slot) (t : Slot → Bool) → every fs t ≡ true → (f : Slot) → among f fs ≡ true → t f ≡ true
every_in fs t h = listed (λ (f : Slot). t f ≡ true) fs (every_of fs t h)

pub every_slot : (t : Slot → Bool) → every slots t ≡ true → (f : Slot) → t f ≡ true
every_slot t h f = every_in slots t h f (slot_among f)
