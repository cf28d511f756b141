-- Numbers that are a record's have an offset and a position that fit; the field that is there has its numbers.
use Rattle.std.specs.Prelude.{Some}
use Rattle.cond.proofs.Kit.{◌&&◌, ◌∙◌, ◌≡◌, Bool, List, sym, true, ℕ, ℤ}
use Rattle.cond.proofs.Tests.{both}
use Rattle.record.specs.declared.Position.TheVariants as PositionIs
use Rattle.flat_record.specs.declared.decode.Kind.{Kind}
use Rattle.flat_record.specs.declared.decode.Kind.TheVariants as kind
use Rattle.flat_record.specs.Decode.{at, fits_if_either, is_flat, kind_of, kinds_fit, offset_fits, offset_in, position_fits, position_in, sign_fits}

pub flat_fits : (ns : List ℕ) → is_flat ns ≡ true → (offset_fits ns ≡ true) × (position_fits ns ≡ true)
unfolding is_flat
flat_fits ns h =
    let p = both (kinds_fit ns && offset_fits ns) (position_fits ns) h in
    ((both (kinds_fit ns) (offset_fits ns) p.0).1, p.1)

-- of either kind
pub signs_fit_lem : (ns : List ℕ) (k : Kind) → ((b : Bool) → fits_if_either k b ≡ b) → kind_of (at ns 21) ≡ k → position_fits ns ≡ true
    → (sign_fits (at ns 22) (at ns 23) ≡ true) × (sign_fits (at ns 24) (at ns 25) ≡ true)
signs_fit_lem ns k p e h = both (sign_fits (at ns 22) (at ns 23)) (sign_fits (at ns 24) (at ns 25)) (sym (p _) ∙ (rw e at h))

pub offset_there : {k : Kind} {z z' : ℤ} → k ≡ kind.First → z ≡ z' → Some z ≡ offset_in k z'
offset_there e q = rw (e, q)

pub degrees_there : {k : Kind} {lat lat' lon lon' : ℤ} {alt : ℕ} → k ≡ kind.First → lat ≡ lat' → lon ≡ lon'
    → Some (PositionIs.Degrees lat lon alt) ≡ position_in k lat' lon' alt
degrees_there e p q = rw (e, p, q)

pub minutes_there : {k : Kind} {lat lat' lon lon' : ℤ} (alt : ℕ) → k ≡ kind.Second → lat ≡ lat' → lon ≡ lon'
    → Some (PositionIs.Minutes lat lon) ≡ position_in k lat' lon' alt
minutes_there alt e p q = rw (e, p, q)
