-- A byte that is not the form's last one, or a ring that has another byte where the string would begin, completes no string.
use Rattle.std.specs.Prelude.{None}
use Rattle.cond.proofs.Kit.{◌+◌, ◌-◌, ◌<◌, ◌∙◌, ◌≡◌, ◌≤◌, add-zero, ap, arith, Bool, false, get_or, get_or-drop, length, length-drop, List, refl, sym, true, ℕ}
use Rattle.cond.specs.Pick.{pick}
use Rattle.forms.specs.Valid.{end_of, start_of, valid_of}
use Rattle.stream.specs.Window.{last_of}
use Rattle.serial.proofs.Strings.{wrong_end, wrong_start}
use Rattle.serial.specs.Shape.{longest}
use Rattle.listener.specs.Ring.{oldest_first, wrapped}
use Rattle.listener.proofs.Rings.{ring_byte, ring_length}

-- no record, whatever the count
either_way : (t : Bool) (f : ℕ) (s : List ℕ) → valid_of f s ≡ None → None ≡ pick t (valid_of f s) None
either_way true f s e = sym e
either_way false f s e = refl

module _ (f : ℕ) (y : List ℕ) (at n : ℕ) (h : at < longest) (sized : length y ≡ longest) (some_byte : 0 < n) (most : n ≤ longest) (t : Bool) where
  at_byte : (i : ℕ) → get_or (last_of n (oldest_first at y)) i 0 ≡ get_or (oldest_first at y) (longest - n + i) 0
  unfolding last_of
  at_byte i = rw (ring_length y at h sized) (get_or-drop (longest - n) (oldest_first at y) i 0)

  pub other_end : (b : ℕ) → get_or (oldest_first at y) (longest - 1) 0 ≡ b → (b ≡ end_of f → ⊥) → None ≡ pick t (valid_of f (last_of n (oldest_first at y))) None
  other_end b eb other =
      let l : length (last_of n (oldest_first at y)) ≡ n = unfold last_of in rw (length-drop, ring_length y at h sized) (omega arith) in
      let e : longest - n + (n - 1) ≡ (longest - 1) = omega arith in
      let last = at_byte (n - 1) in
      let there = sym eb ∙ ap (λ (k : ℕ). get_or (oldest_first at y) k 0) (sym e) ∙ sym last in
      either_way t f _ (wrong_end f (last_of n (oldest_first at y)) (λ q. other (there ∙ (rw l at q))))

  pub other_start : (get_or y (wrapped (at + (longest - n))) 0 ≡ start_of f → ⊥) → None ≡ pick t (valid_of f (last_of n (oldest_first at y))) None
  other_start other =
      let first = at_byte 0 ∙ ap (λ (k : ℕ). get_or (oldest_first at y) k 0) (add-zero (longest - n)) ∙ ring_byte y at h sized (longest - n) (omega arith) in
      either_way t f _ (wrong_start f (last_of n (oldest_first at y)) (λ q. other (sym first ∙ q)))
