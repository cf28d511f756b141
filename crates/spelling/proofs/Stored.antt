-- A store with room for its bytes is that of the library, one without changes nothing, and no store changes the length.
use Rattle.cond.proofs.Kit.{[], ◌*◌, ◌++◌, ◌+◌, ◌-◌, ◌<◌, ◌^◌, ◌∙◌, ◌∷◌, ◌≡◌, ◌≤◌, append_assoc, arith, Bool, false, le-leb, le-mul_of_pos_right, leb, leb-false, leb-true, length, length-append, length-sets, List, lt-leb, refl, sets, sets-eq, drop-drop, sym, true, ℕ}
use Rattle.cond.specs.Pick.{pick}
use Rattle.cond.proofs.Tests.{either_way}
use borrow.Rule.Slice.PartMut.{put_mid}
use Rattle.spelling.specs.Stored.{stored, up_to}
use Rattle.spelling.proofs.Base.{power_pos}
use Rattle.spelling.proofs.Stores.{sets_append}

module _ (o : List ℕ) (k : ℕ) (xs : List ℕ) where
  pub stored_in : k + length xs ≤ length o → stored o k xs ≡ sets o k xs
  unfolding stored
  stored_in h = simp (le-leb _ _ h)

  pub stored_out : length o < k + length xs → stored o k xs ≡ o
  unfolding stored
  stored_out h = simp (lt-leb _ _ h)

  -- no bytes
  pub stored_none : length xs ≡ 0 → stored o k xs ≡ o
  unfolding stored
  stored_none h = go xs h (leb (k + length xs) (length o))
    where
      go : (xs : List ℕ) → length xs ≡ 0 → (t : Bool) → pick t (sets o k xs) o ≡ o
      go [] h true = refl
      go [] h false = refl
      go (x ∷ xs) h t = absurd (omega arith)

  pub stored_length : length (stored o k xs) ≡ length o
  unfolding stored
  stored_length = either_way (leb (k + length xs) (length o)) (λ e. rw e (length-sets o k xs)) (λ e. rw e)

-- what the answer of `has_room` tells of a store: of a part that is lent and filled, and of none
module _ {t : Bool} (o : List ℕ) (k w : ℕ) (xs : List ℕ) (l : length xs ≡ w) (e : t ≡ leb (k + w) (length o)) where
  pub stored_part : (x : List ℕ) → t ≡ true → x ≡ xs → put_mid k (k + w - k) o x ≡ stored o k xs
  stored_part x h p =
      let r : k + length xs ≤ length o = omega (arith, leb-true _ _ (sym e ∙ h)) in
      let m : k + w - k ≡ length xs = omega arith in
      rw (p, m, drop-drop, stored_in o k xs r, sets-eq xs o k r, append_assoc)

  pub not_stored : t ≡ false → o ≡ stored o k xs
  not_stored h = sym (stored_out o k xs (omega (arith, leb-false _ _ (sym e ∙ h))))

-- one store behind the other is one of all the bytes
pub stored_append : (o : List ℕ) (k : ℕ) (xs ys : List ℕ) → k + (length xs + length ys) ≤ length o
    → stored (stored o k xs) (k + length xs) ys ≡ stored o k (xs ++ ys)
stored_append o k xs ys h =
    let l = length-sets o k xs in
    let a = stored_in o k xs (omega arith) in
    let b = stored_in (sets o k xs) (k + length xs) ys (omega arith) in
    let c = stored_in o k (xs ++ ys) (rw length-append h) in
    rw (a, b, c) (sym (sets_append xs ys o k))

module _ (m : ℕ) (s : List ℕ) (n : ℕ) where
  pub few : length s ≤ m → up_to m s n ≡ n
  unfolding up_to
  few h = simp (le-leb _ _ h)

  -- and the bound that a number of any bytes has, holds of none
  pub many : (b base : ℕ) → 0 < base → m < length s → (0 ≡ up_to m s n) × (b ≤ b * base ^ length s)
  unfolding up_to
  many b base p h = (simp (lt-leb _ _ h), le-mul_of_pos_right b (power_pos base (length s) p))

-- what the answer of `has_room` says
module _ {t : Bool} {m n : ℕ} (e : t ≡ leb m n) where
  pub room : t ≡ true → m ≤ n
  room h = leb-true m n (sym e ∙ h)
