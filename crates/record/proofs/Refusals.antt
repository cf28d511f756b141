-- No two refusals share a number, and none has 0: a refusal is read back from its number.
use Rattle.cond.proofs.Kit.{[], ◌∙◌, ◌∷◌, ◌≡◌, ap, arith, eqb, List, refl, sym, ℕ}
use Rattle.cond.specs.Pick.{pick}
use Rattle.record.specs.declared.refusal.Refusal.{Refusal}
use Rattle.record.specs.declared.refusal.Refusal.TheVariants.{UnknownForm, WrongLength, WrongByte, OutOfRange, Disagreement, WrongChecksum, BadRecord, MissingField, NotExpressible, ShortBuffer, BadState, NotFound, Overlap, NoSecond, NoRow, NoRack, BadTable}
use Rattle.record.specs.Refusal.{number_of}

abbrev refusals : List Refusal
refusals =
    UnknownForm ∷ WrongLength ∷ WrongByte ∷ OutOfRange ∷ Disagreement ∷ WrongChecksum ∷ BadRecord ∷ MissingField ∷ NotExpressible ∷ ShortBuffer ∷ BadState ∷ NotFound ∷ Overlap ∷ NoSecond ∷ NoRow ∷ NoRack ∷ BadTable ∷ []

-- the first of them with this number
abbrev numbered : List Refusal → ℕ → Refusal
numbered [] n = UnknownForm
numbered (x ∷ xs) n = pick (eqb (number_of x) n) x (numbered xs n)

abbrev refusal_of : ℕ → Refusal
refusal_of n = numbered refusals n

back : (x : Refusal) → refusal_of (number_of x) ≡ x
back UnknownForm = refl
back WrongLength = refl
back WrongByte = refl
back OutOfRange = refl
back Disagreement = refl
back WrongChecksum = refl
back BadRecord = refl
back MissingField = refl
back NotExpressible = refl
back ShortBuffer = refl
back BadState = refl
back NotFound = refl
back Overlap = refl
back NoSecond = refl
back NoRow = refl
back NoRack = refl
back BadTable = refl

pub numbers_apart : (x y : Refusal) → number_of x ≡ number_of y → x ≡ y
numbers_apart x y h = sym (back x) ∙ ap refusal_of h ∙ back y

-- 0 is no refusal
pub never_zero : (x : Refusal) → number_of x ≡ 0 → ⊥
never_zero x h =
    let e : UnknownForm ≡ x = ap refusal_of (sym h) ∙ back x in
    omega (arith, ap number_of e)
