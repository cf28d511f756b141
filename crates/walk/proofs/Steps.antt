-- Steps of a walk by hand over a function's statements: an early return, a `while`, a call of a function on plain values, and a local that is freed at the return.
use Rattle.walk.proofs.Outcomes.{fails, holds}
use Rattle.walk.proofs.Kit.{ !, [], ◌$◌, ◌∵◌, ◌∷◌, ◌≡◌, ◌⊛◌, ‵, ap, await, Bool, Calls, Clauses, done, drop, emp, Ended, ent, Env, fact, false, fat, FmC, forget, frame, free1, ftrue, full_share, heard, Is, Item, join, later, List, Loops, move, nothing, only, Opds, owns, pick, qed, raw, refl, says, sem, sep, Seq, some, split, SProp, Step, subst, sym, T, Triple, triple_of, true, type_at, Ura, use0, use1, Val, via, zero, ⋆, ℕ}
use mathlib.Core.Option as option
use Prim.Native.Nat.{◌+◌}
use mathlib.Core.WellFounded.{WellFounded}
use mir.Syntax.{Body, Callee, Opd as Operand, Place, Ty, block, call, cond, copy, exit, field, loop, place, seq, skip}
use mir.Val.{vbool}
use base.Logic.{ex_e, snd∗}
use base.Fml.{Share, fdies, froom}
use prog.Memory.{field_of}
use prog.Wp.{Tables, Wp, after_seq, after_turn, exits, next, spot_of}
use types.Logic.{Logic, sem}
use types.Kit.{Goal, Post, any_q, del, frees, lands, mean, nth, post, prop, runs, sel⊢, step}
use types.Run.{Finds, Opd, again, blocks, branches, first, fld, from, jumps, load, look, loops, skips, stop}
use types.Part.{Part, look_in}
use denote.Laws.{Are, Ises, Makess, Tells, owns_make, shows}
use denote.RattleType.{Denots, RattleType, Valss}
use denote.Steps.{facts}
use denote.Triple.Call.{calls_at}
use denote.Triple.Clauses.{AtExit, at_exit, closing, ensured, lasts}
use denote.Triple.Entry.{Res}

-- what a function on plain values is passed is had for nothing
pub plain_args : {M : Type 1} {𝓤 : Ura M} (𝓛 : Logic 𝓤) → (Rs : List RattleType) → Makess 𝓛 Rs (Ises Rs) → (a : Denots Rs) (vss : Valss Rs) → Are Rs (Ises Rs) a vss
    → ent 𝓤 (emp 𝓤) (sep 𝓤 (sep 𝓤 (sem 𝓛 ftrue) (sem 𝓛 (owns Rs a vss))) (emp 𝓤))
plain_args 𝓛 Rs mk a vss are =
    qed 𝓛 [] ∵ use0 𝓛 (‵ (owns Rs a vss)) (owns_make 𝓛 Rs (Ises Rs) mk a vss are) $ nothing ! $ join ! $ frame ! $ done !

-- the same where the function requires something
pub plain_args_where : {M : Type 1} {𝓤 : Ura M} (𝓛 : Logic 𝓤) → (Rs : List RattleType) → Makess 𝓛 Rs (Ises Rs) → (a : Denots Rs) (vss : Valss Rs) → Are Rs (Ises Rs) a vss
    → (φ : Type 0) → φ → ent 𝓤 (emp 𝓤) (sep 𝓤 (sep 𝓤 (sem 𝓛 ftrue) (sem 𝓛 (owns Rs a vss))) (fact 𝓤 φ))
plain_args_where 𝓛 Rs mk a vss are φ h =
    qed 𝓛 [] ∵ says ! h $ use0 𝓛 (‵ (owns Rs a vss)) (owns_make 𝓛 Rs (Ises Rs) mk a vss are) $ nothing ! $ done !

-- the first two entries by what they are
heads : {M : Type 1} {𝓤 : Ura M} (𝓛 : Logic 𝓤) (i i' j j' : Item 𝓤) (Δ : List (Item 𝓤)) (P : SProp 𝓤) → i ≡ i' → j ≡ j'
    → ent 𝓤 (⋆ 𝓛 (i' ∷ j' ∷ Δ)) P → ent 𝓤 (⋆ 𝓛 (i ∷ j ∷ Δ)) P
heads {𝓤 = 𝓤} 𝓛 i i' j j' Δ P e f h =
    subst (λ (k : Item 𝓤). ent 𝓤 (⋆ 𝓛 (k ∷ j ∷ Δ)) P) (sym e) (subst (λ (k : Item 𝓤). ent 𝓤 (⋆ 𝓛 (i' ∷ k ∷ Δ)) P) (sym f) h)

module _ {M : Type 1} {𝓤 : Ura M} {𝓛 : Logic 𝓤} {K : Type 0} {Γ : List (Item 𝓤)} where
  -- entry n is a local without a value, and what follows it is the right to free it
  open 𝓛 use {H}

  pub vacate : K → (n : ℕ) {τ : Ty} {b : ℕ} {E : Env 𝓤 H} {g : Goal 𝓤 H} → nth 𝓛 n Γ ≡ ‵ (froom τ b zero) → nth 𝓛 n (del 𝓛 n Γ) ≡ ‵ (fdies τ b)
      → Step K 𝓛 (del 𝓛 n (del 𝓛 n Γ)) (frees E g) Γ (frees ((τ, b) ∷ E) g)
  vacate t n e f = step (λ s. record { prf = via 𝓤 _ (sel⊢ 𝓛 (n ∷ n ∷ []) Γ) (heads 𝓛 _ _ _ _ (del 𝓛 n (del 𝓛 n Γ)) _ e f (free1 t $ s).prf) })

  -- the same of a local with a value
  pub leave : K → (n : ℕ) {τ : Ty} {b : ℕ} {v : Val} {E : Env 𝓤 H} {g : Goal 𝓤 H} → nth 𝓛 n Γ ≡ ‵ (fat full_share τ b zero v) → nth 𝓛 n (del 𝓛 n Γ) ≡ ‵ (fdies τ b)
      → Step K 𝓛 (del 𝓛 n (del 𝓛 n Γ)) (frees E g) Γ (frees ((τ, b) ∷ E) g)
  leave t n {τ} {b} {v} {E} {g} e f = step (λ s.
      let freed : Seq K 𝓛 (‵ (fat full_share τ b zero v) ∷ ‵ (fdies τ b) ∷ del 𝓛 n (del 𝓛 n Γ)) (frees ((τ, b) ∷ E) g) = forget t 0 refl $ free1 t $ s in
      record { prf = via 𝓤 _ (sel⊢ 𝓛 (n ∷ n ∷ []) Γ) (heads 𝓛 _ _ _ _ (del 𝓛 n (del 𝓛 n Γ)) _ e f freed.prf) })

module _ {M : Type 1} {𝓤 : Ura M} {𝓛 : Logic 𝓤} {K : Type 0} {Γ : List (Item 𝓤)} {E : Env 𝓤 𝓛.H} where
  -- a local as a place; as an operand, where entry n holds it; and a field of it as an operand
  open 𝓛 use {H}

  pub here : K → {i : ℕ} → Finds K 𝓛 Γ E (place i []) (spot_of 𝓤 H E i)
  here t = from t (stop t)

  pub held : K → {i : ℕ} (n : ℕ) {s : Share} {v : Val} → nth 𝓛 n Γ ≡ ‵ (fat s (spot_of 𝓤 H E i).0 (spot_of 𝓤 H E i).1 (spot_of 𝓤 H E i).2 v) → Opd K 𝓛 Γ E (copy (place i [])) v
  held t n e = load t (here t) (look t n e)

  pub field_of_lem : K → {i k : ℕ} (n : ℕ) {s : Share} {τ : Ty} {d : ℕ} {v : Val} {back : Val → Item 𝓤} → field_of (spot_of 𝓤 H E i).0 k ≡ option.some (τ, d)
      → Part K 𝓛 (nth 𝓛 n Γ) s τ (spot_of 𝓤 H E i).1 ((spot_of 𝓤 H E i).2 + d) v back → Opd K 𝓛 Γ E (copy (place i (field k ∷ []))) v
  field_of_lem t n e p = load t (from t (fld t e (stop t))) (look_in t n p)

module _ {M : Type 1} {𝓤 : Ura M} {𝓛 : Logic 𝓤} {K : Type 0} {Γ : List (Item 𝓤)} {E : Env 𝓤 𝓛.H} {C : Calls 𝓤 𝓛.H} {Λ : Loops 𝓤 𝓛.H} {q : Post 𝓤 𝓛.H} where
  -- `if c { return x; }`, and what comes after it
  open 𝓛 use {H}

  pub early : K → {c : Operand} {a b : Body} {y : Bool} → Opd K 𝓛 Γ E c (vbool y)
      → (y ≡ true → Seq K 𝓛 Γ (runs C Λ E a (any_q (after_seq 𝓤 H (Wp 𝓤 H C Λ E b (post 𝓤 H q)) (post 𝓤 H q)))))
      → (y ≡ false → Seq K 𝓛 Γ (runs C Λ E b q)) → Seq K 𝓛 Γ (runs C Λ E (seq (cond c a skip) b) q)
  early t {y = y} o held failed = first t $ branches t o (λ h. held (holds y h)) (λ n. skips t $ record { prf = (failed (fails y n)).prf })

  -- the test at the head of a turn: the turn goes on, or the loop is left
  pub tested : K → {c : Operand} {n : ℕ} {b : Body} {y : Bool} → Opd K 𝓛 Γ E c (vbool y) → (y ≡ true → Seq K 𝓛 Γ (runs C Λ E b q)) → (y ≡ false → Seq K 𝓛 Γ (prop (post 𝓤 H q (exits n))))
      → Seq K 𝓛 Γ (runs C Λ E (seq (cond c skip (exit n)) b) q)
  tested t {y = y} o held failed = first t $ branches t o (λ h. skips t $ record { prf = (held (holds y h)).prf }) (λ n. jumps t $ record { prf = (failed (fails y n)).prf })

  -- a call of a function on plain values: its arguments are had for nothing, and what comes back is its result, at the machine value of it, and what its clause says of it
  pub asks : K → FmC 𝓤 H 𝓛.laws C → {f : Callee} {xs : List Operand} {d : Place} {rest : Body} (T : Ended) (cl : Clauses 𝓤 T)
      → Triple 𝓤 (C f) (triple_of 𝓛 T.signature (closing 𝓛 T cl))
      → (x : (triple_of 𝓛 T.signature (closing 𝓛 T cl)).Ghost) → ent 𝓤 (emp 𝓤) ((triple_of 𝓛 T.signature (closing 𝓛 T cl)).pre x)
      → (vals : Res T.signature x.0.0 → Val) → Tells (type_at T.signature.result x.0.0) (Is (type_at T.signature.result x.0.0)) (λ r. vals r ∷ [])
      → (φ : Res T.signature x.0.0 → Type 0) → ((r : Res T.signature x.0.0) (e : AtExit T x.0.0) → ent 𝓤 ((cl x.0.0 x.0.3).ensures x.1 r e) (fact 𝓤 (φ r)))
      → ((v : Val) → ent 𝓤 ((triple_of 𝓛 T.signature (closing 𝓛 T cl)).post x v)
      (mean 𝓛 (later (some (λ (r : Res T.signature x.0.0). (‵ ftrue ⊛ ‵ ((type_at T.signature.result x.0.0).own_val r (v ∷ []))) ⊛ raw (ensured 𝓛 T cl x.0.0 x.0.3 x.1 r))))))
      → Opds K 𝓛 (raw ((triple_of 𝓛 T.signature (closing 𝓛 T cl)).pre x) ∷ Γ) E xs ((triple_of 𝓛 T.signature (closing 𝓛 T cl)).args x)
      → ((r : Res T.signature x.0.0) → φ r → Is (type_at T.signature.result x.0.0) r (vals r ∷ []) → Seq K 𝓛 Γ (lands C Λ E d (vals r) rest q))
      → Seq K 𝓛 Γ (runs C Λ E (seq (call f xs d) rest) q)
  asks t fm {d = d} {rest = rest} T cl met x goes vals tells φ clause shape ops k =
      use0 𝓛 (raw ((triple_of 𝓛 T.signature (closing 𝓛 T cl)).pre x)) goes $ calls_at t fm (triple_of 𝓛 T.signature (closing 𝓛 T cl)) met x ops (λ v.
      use1 𝓛 (later (some (λ (r : Res T.signature x.0.0). (‵ ftrue ⊛ ‵ ((type_at T.signature.result x.0.0).own_val r (v ∷ []))) ⊛ raw (ensured 𝓛 T cl x.0.0 x.0.3 x.1 r)))) (shape v) $ await t tt $ pick t (λ r.
      split t $ move t (1 ∷ []) $ use1 𝓛 (raw (fact 𝓤 (φ r))) (ex_e 𝓤 _ (λ ws. via 𝓤 _ (snd∗ 𝓤 (sem 𝓛 (lasts T x.0.0 x.0.3 ws)) ((cl x.0.0 x.0.3).ensures x.1 r (at_exit T x.0.0 x.0.3 ws))) (clause r (at_exit T x.0.0 x.0.3 ws)))) $
      heard t (φ r) (λ e. split t $ drop t $ facts t (type_at T.signature.result x.0.0) (Is (type_at T.signature.result x.0.0)) (shows 𝓛 (type_at T.signature.result x.0.0)) r (v ∷ []) (λ is.
      subst (λ (w : Val). Is (type_at T.signature.result x.0.0) r (w ∷ []) → Seq K 𝓛 Γ (lands C Λ E d w rest q)) (ap only (sym (tells r (v ∷ []) is))) (k r e) is))))

-- `while`, and what comes after it: a turn from the invariant at x ends in the invariant at some y below x, or leaves the loop
module _ {M : Type 1} {𝓤 : Ura M} {𝓛 : Logic 𝓤} {K : Type 0} {X : Type 0} where
  open 𝓛 use {H}

  pub whiles : K → (𝓣 : Tables 𝓤 H) (≺ : X → X → Type 0) → WellFounded ≺ → (I : X → List (Item 𝓤)) {E : Env 𝓤 H} {b rest : Body} {q : Post 𝓤 H}
      → ((x : X) (Q : Post 𝓤 H) → ((y : X) → ≺ y x → Seq K 𝓛 (I y) (prop (post 𝓤 H Q next)))
      → ((Γ : List (Item 𝓤)) → Step K 𝓛 Γ (runs 𝓣.C 𝓣.Λ E rest q) Γ (prop (post 𝓤 H Q (exits 1)))) → Seq K 𝓛 (I x) (runs 𝓣.C 𝓣.Λ E b Q))
      → (x : X) → Seq K 𝓛 (I x) (runs 𝓣.C 𝓣.Λ E (seq (block (loop b)) rest) q)
  unfolding after_turn
  whiles t 𝓣 ≺ wf I turn x = first t $ blocks t $ loops t 𝓣 ≺ wf I (λ u. turn u _ (λ v l. again t ≺ I u v l) (λ Γ. step (λ s. record { prf = s.prf }))) x
