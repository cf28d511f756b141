-- The names of the library that a walk by hand uses, in one module, so that such a proof has one line for them.
pub use mathlib.Core.Bool.{Bool, false, not, true}
pub use mathlib.Core.List.{[], ◌∷◌, List}
pub use mathlib.Core.Path.{◌∙◌, ◌≡◌, ap, refl, subst, sym}
pub use mathlib.Core.WellFounded.{WellFounded}
pub use native.Mathlib.Numerals.{add-one}
pub use Prim.Native.Nat.{◌*◌, ◌+◌, ◌-◌, ◌<◌, ◌^◌, ◌≤◌, zero, ℕ}
pub use native.Mathlib.Omega.{arith}
pub use lib.Dec.{T, eqb, ltb}
pub use lib.ListN.{get_or, length, length-set, set}
pub use seplogic.Ra.Ura.{Ura}
pub use base.Fraction.{full_share}
pub use mir.Syntax.{Ty, mut, named, ty_bool, ty_int, ty_ptr, ty_ref, w32, w64}
pub use mir.Val.{Val, vint, vptr}
pub use base.Logic.{SProp, emp, ent, fst∗, id⊢, sep, via}
pub use base.Fml.{GName, Lft, Share, fat, fauth, fbor, fdies, flft, fobor, fobs, froom, ftrue}
pub use prog.Memory.{Memory}
pub use prog.Routine.{Routine}
pub use prog.Wp.{Calls, Env, Heap, Loops, Tables, WpFn, exits, next}
pub use ghost.Atoms.{Atoms}
pub use types.Logic.{sem}
pub use contract.Monad.{Fun, fact}
pub use contract.Running.{tables}
pub use types.Kit.{ !, ◌$◌, ◌∵◌, ◌⊛◌, ‵, Go, Item, Post, Seq, Sq, Step, at_ret, await, by, done, drop, feq_l, fjoin, frame, fsplit, join, keep, later, move, pick, post, prop, qed, raw, rewrite, runs, some, split, suffices, use0, use1, use2, ⋆}
pub use types.Run.{Opds, addr, alloc0, alloc1, and_then, assigns, assigns_last, bin, enter, fld, forget, free0, free1, from, hop, init, land, lit, load, look, look_raw, no_more, of_opd, params1, pass0, pass1, returns, returns_within, stop, store, store_raw}
pub use types.Part.{agg, look_in, sub, whole}
pub use sound.WpLaws.{FmC, WpFn-mono, fm_of}
pub use denote.RattleType.{owns}
pub use denote.Shadow.{pure_i}
pub use denote.Laws.{Is, shows}
pub use denote.Plain.{uint_Lawful, uint_Makes, uint_Tells, uint_vals}
pub use denote.Memory.{pointee}
pub use denote.Builtin.{u32, usize}
pub use denote.Ref.{Bor, MutBor}
pub use denote.Signature.{plain, type_at}
pub use denote.Slice.{MutSlice, Room, shr_slice_at, mut_slice_at, coded_holeys, finally, heres, mut_slice_Tells, shr_slice_vals, mut_slice_vals, slice_ty, slice_val}
pub use denote.Lend.{Held}
pub use denote.Index.{closes_slice, elem_back, elem_out, elem_put, opens_slice, place_is, row}
pub use denote.Steps.{heard, nothing, only, owned, peeks}
pub use denote.Triple.Statement.{Contract, Triple}
pub use denote.Triple.Call.{calls_at}
pub use denote.Triple.Clauses.{Clauses, Ended, ensured, lasts}
pub use denote.Triple.Entry.{on_entry}
pub use denote.Triple.Spec.{Meets, triple_of}
pub use denote.Triple.Table.{cited, entered}
pub use denote.Triple.Walked.{Stays, ends_at, gave_slice, Goes-gave_slice, Goes-none, Goes-slice, says, stay_none, stay_slice, walk_Meets, walk_of, walked}
pub use denote.Exit.{yes}
