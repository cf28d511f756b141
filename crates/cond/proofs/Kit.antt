-- The names of the library that proofs use most, in one module, so that a proof file has one line for them. Definitions and contracts name
-- the library itself.
pub use mathlib.Core.Bool.{◌&&◌, ◌||◌, and_assoc, and-false, and-true, Bool, false, false≢true, not, or_assoc, or-false, true}
pub use mathlib.Core.List.{[], ◌++◌, ◌∷◌, append_assoc, append-nil, List, map}
pub use mathlib.Core.Path.{◌∙◌, ◌≡◌, ap, ap₂, fun_ext, refl, subst, sym}
pub use Prim.Native.Nat.{◌%◌, ◌*◌, ◌+◌, ◌-◌, ◌/◌, ◌<◌, ◌^◌, ◌≤◌, min, suc, zero, zero-le, ℕ}
pub use native.Mathlib.Omega.{arith}
pub use lib.Dec.{eqb, leb, leb-suc-zero as leb·suc-zero, lit<, lit≤, ltb, T}
pub use lib.ListN.{drop, drop_of_length-le, get_or, length, length-append, length-drop, length-replicate, length-set, length-take, get_or-append as List·getD-append, get_or-eq_default as List·getD-eq-default, replicate, set, take, take-append-drop}
pub use lib.Seq.{append_snoc, drop-append-add, drop-append-le, drop_at, drop-cons, drop-drop, drop-length, drop-nil, drop-paste, drop-set-lt, ext_get_or, get_or-append-add, get_or_at, get_or-drop, get_or-set_same, get_or-take, length-sets, length-take-le, paste, paste-suc, paste-zero, set_at, set_comm, set_split, sets, sets-eq, take-add, take_all, take-append-le, take_at, take-length, take-nil, take-set-le, take-set-lt, take-suc, take-suc-set, take-take}
pub use borrow.Author.Rules.{rules}
pub use borrow.Author.Tests.{eq-eqb, eqb-false, eqb-true, le-leb, le-ltb, leb-false, leb-true, lt-leb, lt-ltb, ltb-false, ltb-true, ne_eqb, not-false, not-true}
pub use native.Mathlib.Nat.{add_assoc, add_comm, add-mul, add-suc, add-zero, div-add-mod, div-div-eq-div-mul, div-eq_of_lt, div-lt_iff_lt-mul, le-min, le-mul_of_pos_right, le_of_suc-le-suc, le_refl, le-suc, lt_of_le_of_lt, lt_of_lt_of_le, min-eq_left, min-le_left, min-le_right, mod-eq_of_lt, mod-le, mod-lt, mul_assoc, mul_comm, mul-le-mul_left, mul-le-mul_right, mul-one, mul-pos, mul-suc, mul-zero, not-suc-le-zero, pow-le-pow_right, pow-suc, pow-zero, sub-zero, suc-add, zero-add}
pub use mathlib.Core.Option.{none, Option, some}
pub use native.Mathlib.Numerals.{add-one}
pub use mathlib.Core.Logic.{◌⊎◌, inl, inr, ⊎_elim}
pub use Prim.Native.String.{String}
pub use lib.IntN.{+ℤ_idl, ◌-ℤ◌, nat_abs, negsuc, neg_ℤ, pos, ℤ}
pub use lib.Bits.{bit_xor, differ, xor_comm, xor_lt, xor_step}
pub use lib.Arith.{digits_div, digits_lt, digits_mod, mod-mul}
pub use borrow.Rule.Slice.PartMut.{same_len_mid}
pub use lib.Signed.{lt_z, mag, nat_abs-le, non_neg}
pub use mir.Facts.{Fits-nat_abs, sfits_widen, to_z-of_z}
pub use mir.Syntax.{w32, w64, w8}
pub use mir.Val.{Fits, of_z, SFits, to_z}
