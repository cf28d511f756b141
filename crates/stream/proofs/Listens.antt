-- Demand 3 over a form of n bytes follows from what the form supplies.
use Rattle.std.specs.Prelude.{Option, None, Some}
use Rattle.cond.proofs.Kit.{◌++◌, ◌+◌, ◌<◌, ◌∙◌, ◌≡◌, ◌≤◌, ap, arith, drop, length, length-append, length-drop, List, sym, ℕ}
use Rattle.stream.specs.Answer.{Answer, answer_at, handed_out, records_of, refused}
use Rattle.stream.specs.Heard.{heard_all, heard_at}
use Rattle.stream.specs.Listens.{Listens}
use Rattle.stream.specs.Strings.{Strings}
use Rattle.stream.proofs.Heard.{heard_short, later, shared}
use Rattle.stream.proofs.Records.{heard_all_lem, length_heard}
use Rattle.stream.proofs.Repeated.{search_from_lem}

not_refused_lem : {R : Type 0} (o : Option R) (c : ℕ) → handed_out o ≡ refused c → ⊥
not_refused_lem None c e = let y : ◌≡◌ {A = ℕ} 0 1 = cc in omega arith
not_refused_lem (Some r) c e = let y : ◌≡◌ {A = ℕ} 0 1 = cc in omega arith

module _ {R : Type 0} (n : ℕ) (valid : List ℕ → Option R) (law : Strings n valid) where
  -- whatever answers a list of bytes with what its bytes hand out
  pub listens_by : (hears : List ℕ → List (Answer R)) → ((s : List ℕ) → hears s ≡ heard_all n valid s) → Listens n valid hears
  listens_by hears all =
      record {
        whole = all;
        each = λ s. rw (all s) (unfold heard_all in length_heard n valid s (length s) 1);
        exact = exactly;
        never_refused = λ s k c h l e. not_refused_lem (heard_at n valid s k) c (sym (exactly s k h l) ∙ e);
        in_order = λ s. ap records_of (all s);
        shared_piece = λ a piece c a' c' k h l.
            exactly (a ++ (piece ++ c)) (length a + k) (omega arith) (within a piece c k l)
            ∙ ap handed_out (shared n valid a piece c a' c' k h l)
            ∙ sym (exactly (a' ++ (piece ++ c')) (length a' + k) (omega arith) (within a' piece c' k l));
        later_nothing = λ s i k h m l.
            exactly (drop i s) k h (rw length-drop (omega arith)) ∙ ap handed_out (heard_short n valid (drop i s) k m);
        later_start = λ s i k h l.
            exactly (drop i s) k (omega arith) (rw length-drop (omega arith)) ∙ ap handed_out (later n valid s i k h)
            ∙ sym (exactly s (i + k) (omega arith) l);
        later_records = λ s i. ap records_of (all (drop i s)) ∙ sym (search_from_lem n valid law s i);
        same_as_search = λ s. ap records_of (all s) ∙ sym (search_from_lem n valid law s 0);
      }
    where
      some_byte : 0 < n
      some_byte = law.some_byte

      exactly : (s : List ℕ) (k : ℕ) → 0 < k → k ≤ length s → answer_at (hears s) k ≡ handed_out (heard_at n valid s k)
      exactly s k h l = rw (all s) (heard_all_lem n valid s k h l)

      within : (a piece c : List ℕ) (k : ℕ) → k ≤ length piece → length a + k ≤ length (a ++ (piece ++ c))
      within a piece c k l = simp length-append (omega arith)
