-- A run answers nothing to all bytes that it used but the last, and leaves the state that these bytes leave.
use Rattle.std.specs.Prelude.{Option, None, Some}
use Rattle.cond.proofs.Kit.{[], ◌++◌, ◌-◌, ◌<◌, ◌∷◌, ◌≡◌, ◌≤◌, ap, arith, Bool, drop, false, length, List, ltb, map, refl, suc, take_at, true, zero, ℕ}
use Rattle.cond.specs.Pick.{pick}
use Rattle.record.specs.declared.Record.{Record}
use Rattle.forms.specs.Valid.{length_of, valid_of}
use Rattle.stream.specs.Answer.{Answer, handed, nothing, refused}
use Rattle.stream.specs.Distance.{step_answer, unless_overlap}
use Rattle.stream.specs.Listener.{hit}
use Rattle.stream.specs.Machine.{answers}
use Rattle.listener.specs.declared.Listener.{Listener}
use Rattle.listener.specs.Listening.{answer_by, answer_to, is_bad, next_of, state_of}
use Rattle.flat_record.specs.Encode.{head_of, numbers_of, size, tail_of}
use Rattle.lindenscoop.specs.Listener.{answer_number, answer_numbers}
use Rattle.lindenscoop.specs.Repeated.{in_numbers, seen_by, seen_of}
use Rattle.lindenscoop.specs.Run.{Run, behind_one, is_answer, run_of}
use Rattle.listener.proofs.Starts.{pick_has}
use Rattle.lindenscoop.proofs.Chained.{Long, next_long}

-- what both cases of a byte have
module _ (P : Run → Type 0) (l : Listener) (b : ℕ) (s : List ℕ) where
  by_answer : P (record { state = next_of l b; used = 1; answer = answer_to l b }) → P (behind_one (run_of (next_of l b) s)) → P (run_of l (b ∷ s))
  unfolding run_of
  by_answer h k = pick_has P (is_answer (answer_to l b)) _ _ (λ e. h) (λ e. k)

-- how many bytes a run uses, and the ring that it leaves

pub uses_some : (l : Listener) (b : ℕ) (s : List ℕ) → 0 < (run_of l (b ∷ s)).used
uses_some l b s = by_answer (λ r. 0 < r.used) l b s (omega arith) (omega arith)

pub uses_most : (s : List ℕ) (l : Listener) → (run_of l s).used ≤ length s
unfolding run_of
uses_most [] l = omega arith
uses_most (b ∷ s) l = let i = uses_most s (next_of l b) in by_answer (λ r. r.used ≤ length (b ∷ s)) l b s (omega arith) (omega arith)

pub run_long : (s : List ℕ) (l : Listener) → Long l → Long (run_of l s).state
unfolding run_of
run_long [] l h = h
run_long (b ∷ s) l h = let n = next_long l b h in by_answer (λ r. Long r.state) l b s n (run_long s (next_of l b) n)

-- the answers to bytes: those to the bytes used, then those to the others

abbrev pub heard_by : Listener → List ℕ → List (Answer Record)
heard_by l s = answers next_of answer_to l s

unanswered : (a : Answer Record) → is_answer a ≡ false → a ≡ nothing
unanswered (handed x) e = let z : ◌≡◌ {A = Bool} true false = e in let y : ◌≡◌ {A = ℕ} 0 1 = cc in absurd (omega arith)
unanswered nothing e = refl
unanswered (refused c) e = let z : ◌≡◌ {A = Bool} true false = e in let y : ◌≡◌ {A = ℕ} 0 1 = cc in absurd (omega arith)

ends_used : (s : List ℕ) (l : Listener) → (run_of l s).used ≡ 0 → (run_of l s).answer ≡ nothing
unfolding run_of
ends_used [] l z = refl
ends_used (b ∷ s) l z = let h = uses_some l b s in absurd (omega arith)

told_more : (u : ℕ) (a : Answer Record) → (u ≡ 0 → a ≡ nothing) → seen_of (suc u) a ≡ nothing ∷ seen_of u a
unfolding seen_of
told_more zero a h = ap (λ x. x ∷ []) (h refl)
told_more (suc u) a h = refl

pub split : (s t : List ℕ) (l : Listener)
    → heard_by l (s ++ t) ≡ seen_of (run_of l s).used (run_of l s).answer ++ heard_by (run_of l s).state (drop (run_of l s).used s ++ t)
unfolding run_of seen_of answers
split [] t l = refl
split (b ∷ s) t l = go (is_answer (answer_to l b)) refl (split s t (next_of l b))
  where
    rest : Run
    rest = run_of (next_of l b) s

    Splits : Run → Type 0
    Splits r = answer_to l b ∷ heard_by (next_of l b) (s ++ t) ≡ seen_of r.used r.answer ++ heard_by r.state (drop r.used (b ∷ s) ++ t)

    go : (x : Bool) → is_answer (answer_to l b) ≡ x
        → heard_by (next_of l b) (s ++ t) ≡ seen_of rest.used rest.answer ++ heard_by rest.state (drop rest.used s ++ t)
        → Splits (pick x (record { state = next_of l b; used = 1; answer = answer_to l b }) (behind_one rest))
    go true e i = refl
    go false e i = rw (unanswered (answer_to l b) e, told_more rest.used rest.answer (ends_used s (next_of l b)), i)

-- a record that is handed out stands at the head of the buffer, so that the number and the buffer say what the answer is

abbrev Told : Answer Record → Type 0
Told a = (r : List ℕ) → seen_by (answer_number a) (answer_numbers a r) ≡ in_numbers a

handed_told : (x : Record) → Told (handed x)
unfolding head_of tail_of seen_by
handed_told x r = ap handed (take_at (numbers_of x) (drop size r) size refl)

overlap_told : (n d : ℕ) (o : Option Record) → Told (unless_overlap n d o)
unfolding seen_by
overlap_told n d None = λ r. refl
overlap_told n d (Some x) = pick_has Told (ltb d (n - 1)) _ _ (λ e r. refl) (λ e. handed_told x)

answer_told : (l : Listener) (b : ℕ) → Told (answer_to l b)
unfolding answer_to answer_by step_answer seen_by
answer_told l b =
    pick_has Told (is_bad (length_of l.form) l) _ _ (λ e r. refl)
    (λ e. overlap_told (length_of l.form) (state_of l).distance (hit (length_of l.form) (valid_of l.form) (state_of l).kept b))

pub run_told : (s : List ℕ) (l : Listener) → Told (run_of l s).answer
unfolding run_of seen_by
run_told [] l = λ r. refl
run_told (b ∷ s) l = by_answer (λ r. Told r.answer) l b s (answer_told l b) (run_told s (next_of l b))

pub told_map : (u : ℕ) (a : Answer Record) → map in_numbers (seen_of u a) ≡ seen_of u (in_numbers a)
unfolding seen_of
told_map zero a = refl
told_map (suc zero) a = refl
told_map (suc (suc u)) a = ap (λ (t : List (Answer (List ℕ))). nothing ∷ t) (told_map (suc u) a)
