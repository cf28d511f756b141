-- Bytes moved to the head of a buffer one by one, and the last bytes of its filled part.
use Rattle.cond.proofs.Kit.{[], ◌+◌, ◌-◌, ◌<◌, ◌∙◌, ◌≡◌, ◌≤◌, add-one, ap, arith, drop, drop_of_length-le, drop-paste, get_or, get_or-drop, leb, leb-false, leb-true, length, length-drop, length-take, length-take-le, List, min, paste, paste-suc, set, sym, take, take_all, zero-add, ℕ}
use Rattle.cond.proofs.Tests.{either_way}
use Rattle.cond.proofs.Parts.{drop_take}
use Rattle.forms.specs.Valid.{length_of}
use Rattle.stream.specs.Window.{last_of}
use Rattle.report.specs.Carry.{Carried, carried_of}

module _ (b : List ℕ) (from k : ℕ) (inside : from + k ≤ length b) (i : ℕ) (l : i < k) where
  room : i < length (drop from b)
  room = rw length-drop (omega arith)

  -- a byte that is still to be moved was not overwritten
  stays : get_or (paste b 0 (drop from b) i) (from + i) 0 ≡ get_or b (from + i) 0
  stays =
      let e : i + from ≡ from + i = omega arith in
      let x = paste b 0 (drop from b) i in
      let z : 0 + i ≡ i = zero-add i in
      let same : drop i x ≡ drop i b =
      ap (λ (n : ℕ). drop n x) (sym z) ∙ drop-paste b 0 (drop from b) i (omega arith) (omega (arith, room)) ∙ ap (λ (n : ℕ). drop n b) z in
      rw (← e, ← get_or-drop i x from 0, same, get_or-drop)

  pub moves : (x : List ℕ) → x ≡ paste b 0 (drop from b) i → set x i (get_or x (from + i) 0) ≡ paste b 0 (drop from b) (i + 1)
  moves x h =
      let z : 0 + i ≡ i = zero-add i in
      rw (h, stays, ← get_or-drop from b i 0, add-one)
      (ap (λ (n : ℕ). set (paste b 0 (drop from b) i) n (get_or (drop from b) i 0)) (sym z) ∙ paste-suc b 0 (drop from b) i 0 (omega arith) room)

-- the last bytes of the filled part

pub take_least : (m : ℕ) (s : List ℕ) → take (min m (length s)) s ≡ take m s
take_least m s =
    either_way (leb m (length s)) (λ h. let e : min m (length s) ≡ m = omega (arith, leb-true m (length s) h) in rw e)
    (λ h.
    let l = leb-false m (length s) h in
    take_all (min m (length s)) s (omega arith) ∙ sym (take_all m s (omega arith)))

module _ (form end : ℕ) (b : List ℕ) where
  pub none_carried : length_of form ≡ 0 → Carried form end 0 b b
  unfolding carried_of last_of
  none_carried h =
      let past : length (take end b) ≤ length (take end b) - (length_of form - 1) = omega arith in
      let none : drop (length (take end b) - (length_of form - 1)) (take end b) ≡ [] = drop_of_length-le (take end b) past in
      record { count = rw none; left = rw none }

  module _ (filled k : ℕ) (f : filled ≡ min end (length b)) (e : k ≡ min (length_of form - 1) filled) where
    last_bytes : carried_of form (take end b) ≡ take k (drop (filled - k) b)
    unfolding carried_of last_of
    last_bytes =
        let size : length (take end b) ≡ filled = length-take end b ∙ sym f in
        let place : filled - (length_of form - 1) ≡ filled - k = omega arith in
        let whole : filled - k + k ≡ min end (length b) = omega arith in
        rw (size, place, ← take_least end b, ← whole) (drop_take (filled - k) k b)

    pub carried : (after : List ℕ) → after ≡ paste b 0 (drop (filled - k) b) k → Carried form end k b after
    carried after h =
        let long : length (take k (drop (filled - k) b)) ≡ k = length-take-le k (drop (filled - k) b) (rw length-drop (omega arith)) in
        let z : 0 + k ≡ k = zero-add k in
        record { count = rw last_bytes (sym long); left = h ∙ rw (z, last_bytes) }
