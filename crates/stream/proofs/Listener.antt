-- A listener that keeps the last m bytes hands out at each byte the record of the valid string that ends there.
use Rattle.std.specs.Prelude.{Option, None}
use Rattle.cond.proofs.Kit.{[], ◌++◌, ◌+◌, ◌<◌, ◌∙◌, ◌∷◌, ◌≡◌, ◌≤◌, append_snoc, arith, Bool, false, le-leb, leb, leb-false, leb-true, length, length-append, List, lt-leb, refl, sym, true, ℕ}
use Rattle.cond.specs.Pick.{pick}
use Rattle.stream.specs.Heard.{heard_all, heard_at, heard_from}
use Rattle.stream.specs.Listener.{hit, kept_after, kept_answer}
use Rattle.stream.specs.Machine.{answers}
use Rattle.stream.specs.Window.{last_of}
use Rattle.stream.proofs.Heard.{heard_short, heard_stays, heard_window}
use Rattle.stream.proofs.Window.{last_last, last_window, length_last, none_last}

-- "The kept bytes are always the last n-1 fed"
pub kept_step : (m : ℕ) (p : List ℕ) (b : ℕ) → kept_after m (last_of m p) b ≡ last_of m (p ++ (b ∷ []))
unfolding kept_after
kept_step m p b = last_last m m p (b ∷ []) (omega arith)

module _ {R : Type 0} (m n : ℕ) (valid : List ℕ → Option R) (room : n ≤ m + 1) where
  -- behind the bytes p, byte b completes the window that ends with it
  pub hit_heard : (p : List ℕ) (b : ℕ) → hit n valid (last_of m p) b ≡ heard_at n valid (p ++ (b ∷ [])) (length p + 1)
  unfolding hit
  hit_heard p b = go (leb n (length p + 1)) refl
    where
      go : (t : Bool) → leb n (length p + 1) ≡ t
          → pick (leb n (length (last_of m p) + 1)) (valid (last_of n (last_of m p ++ (b ∷ [])))) None ≡ heard_at n valid (p ++ (b ∷ [])) (length p + 1)
      go true e =
          let l = leb-true n (length p + 1) e in
          let long : n ≤ length (last_of m p) + 1 = rw length_last (omega arith) in
          rw (le-leb n _ long, last_last m n p (b ∷ []) room, last_window n p b) (sym (heard_window n valid (p ++ (b ∷ [])) (length p + 1) l))
      go false e =
          let l = leb-false n (length p + 1) e in
          let short : length (last_of m p) + 1 < n = rw length_last (omega arith) in
          rw (lt-leb n _ short) (sym (heard_short n valid (p ++ (b ∷ [])) (length p + 1) l))

  -- the answers to bytes fed behind p
  answers_from :
      (p bs : List ℕ)
      → answers (kept_after m) (kept_answer n valid) (last_of m p) bs ≡ heard_from n valid (p ++ bs) (length bs) (length p + 1)
  unfolding answers heard_from
  answers_from p [] = refl
  answers_from p (b ∷ bs) =
      let first : hit n valid (last_of m p) b ≡ heard_at n valid (p ++ b ∷ bs) (length p + 1) =
      hit_heard p b ∙ sym (heard_stays n valid (p ++ (b ∷ [])) bs (length p + 1) (rw length-append (omega arith))) ∙ rw append_snoc in
      rw (first, kept_step m p b, answers_from (p ++ (b ∷ [])) bs, append_snoc, length-append)

  -- "one claim about the whole list of bytes"
  pub hears_all : (s : List ℕ) → answers (kept_after m) (kept_answer n valid) [] s ≡ heard_all n valid s
  unfolding heard_all
  hears_all s = rw none_last at (answers_from [] s)
