-- W-207 and W-206, put together.
use Rattle.cond.proofs.Kit.{◌≡◌, arith, length, List}
use Rattle.std.specs.Prelude.{Err}
use Rattle.record.specs.declared.refusal.Refusal.TheVariants as refusal
use Rattle.racks.specs.declared.Row.{Row}
use Rattle.racks.specs.Calls.{Call, after_all, empty, told}
use Rattle.racks.specs.Racks.{Racks}
use Rattle.racks.proofs.Afresh.{afresh, arrival}
use Rattle.racks.proofs.Answers.{refusals, table_number}
use Rattle.racks.proofs.Calls.{good_all, isolated, own_alone}
use Rattle.racks.proofs.RackZero.{rack_zero}
use Rattle.racks.proofs.Tables.{good_empty, good_table}

possible : (rows : List Row) → length rows ≡ 64 → (cs : List Call) (c : Call) → told (after_all (empty rows) cs) c ≡ Err refusal.BadTable → ⊥
possible rows h cs c e =
    let t = after_all (empty rows) cs in
    let l = table_number t.rows t.used c.rack c.given (good_table t (good_all (empty rows) cs (good_empty rows h))) in
    omega (arith, rw e at l)

pub racks : Racks
racks = record { isolated = isolated; own_alone = own_alone; afresh = afresh; arrival = arrival; rack_zero = rack_zero; possible = possible; refusals = refusals }
