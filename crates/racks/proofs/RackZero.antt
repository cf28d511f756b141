-- Where only rack 0 calls, all rows in use are its own.
use Rattle.cond.proofs.Kit.{[], ◌++◌, ◌<◌, ◌∙◌, ◌∷◌, ◌≡◌, ◌≤◌, ap, arith, Bool, eqb-false, eqb-true, false, length, length-append, List, ltb, ltb-false, map, refl, suc, sym, take, take-suc, true, zero, ℕ}
use mathlib.Core.List.{map-append}
use Rattle.record.specs.declared.Record.{Record}
use Rattle.runs.specs.Afresh.{runs_of}
use Rattle.racks.specs.declared.Row.{Row}
use Rattle.racks.specs.Calls.{after_all, empty, in_use, not_refused, of_rack_zero, records_of, row_of_zero, seconds_of}
use Rattle.racks.specs.Rows.{is_of, no_row, others, own, row_at}
use Rattle.racks.proofs.Afresh.{afresh}
use Rattle.racks.proofs.Calls.{good_all, none_own}
use Rattle.racks.proofs.Own.{count, neither, own_not, own_of, two_only}
use Rattle.racks.proofs.Tables.{good_empty}

-- rows none of which is of another rack than 0
of_zero : (y : Row) → y.rack ≡ 0 → y ≡ row_of_zero y.run
of_zero y e = ap (λ (k : ℕ). record { rack = k; run = y.run }) e

zeros_by : (rows : List Row) (i : ℕ) (b c : Bool) → is_of 0 rows i ≡ b → is_of 1 rows i ≡ c → i < length rows → ltb 1 (row_at rows i).rack ≡ false → length (own 1 rows (suc i)) ≡ 0
    → (length (own 1 rows i) ≡ 0 → take i rows ≡ map row_of_zero (own 0 rows i)) → take (suc i) rows ≡ map row_of_zero (own 0 rows (suc i))
zeros_by rows i b true g h l o n ih = absurd (omega (arith, sym (ap length (own_of 1 rows i h)) ∙ n, length-append (own 1 rows i) ((row_at rows i).run ∷ [])))
zeros_by rows i true false g h l o n ih =
    rw (take-suc rows i no_row l, own_of 0 rows i g, map-append, ih (ap length (sym (own_not 1 rows i h)) ∙ n)) (ap (λ (y : Row). map row_of_zero (own 0 rows i) ++ (y ∷ [])) (of_zero (row_at rows i) (eqb-true (row_at rows i).rack 0 g)))
zeros_by rows i false false g h l o n ih = absurd (two_only (row_at rows i).rack (ltb-false 1 (row_at rows i).rack o) (eqb-false (row_at rows i).rack 0 g) (eqb-false (row_at rows i).rack 1 h))

zeros : (rows : List Row) (i : ℕ) → i ≤ length rows → others rows i ≡ false → length (own 1 rows i) ≡ 0 → take i rows ≡ map row_of_zero (own 0 rows i)
zeros rows zero l o n = refl
zeros rows (suc i) l o n = let q = neither (others rows i) _ o in zeros_by rows i _ _ refl refl (omega arith) q.1 n (zeros rows i (omega arith) q.0)

no_records : (rs : List Record) → records_of 1 (of_rack_zero rs) ≡ []
no_records [] = refl
no_records (r ∷ rs) = no_records rs

pub rack_zero : (rows : List Row) → length rows ≡ 64 → (rs : List Record)
    → in_use (after_all (empty rows) (of_rack_zero rs)) ≡ map row_of_zero (runs_of (seconds_of (records_of 0 (not_refused (empty rows) (of_rack_zero rs)))))
rack_zero rows h rs =
    let t = after_all (empty rows) (of_rack_zero rs) in
    let g = good_all (empty rows) (of_rack_zero rs) (good_empty rows h) in
    let few : t.used ≤ length t.rows = omega (arith, g.full, count t.rows t.used g.only, (g.racks 0 (omega arith)).few, (g.racks 1 (omega arith)).few) in
    zeros t.rows t.used few g.only (ap length (none_own 1 (omega arith) rows h (of_rack_zero rs) (no_records rs)))
    ∙ ap (map row_of_zero) (afresh 0 (omega arith) rows h (of_rack_zero rs))
