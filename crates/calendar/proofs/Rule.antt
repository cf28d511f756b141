-- The rule of the month table, computed once over the code's table, and what it says of each entry.
use Rattle.cond.proofs.Kit.{◌+◌, ◌<◌, ◌∙◌, ◌≡◌, ap, arith, get_or, refl, suc, zero, ℕ}
use Rattle.calendar.specs.Calendar.{first_day, first_days, is_leap, length_at, month_days}
use Rattle.calendar.specs.declared.table.TheConstants.{FIRST_DAYS}

-- "each entry plus its month's length giving the next"
pub rule : FIRST_DAYS ≡ first_days 1201 0 0
unfolding first_days is_leap length_at month_days
rule = refl

entry : (n k i : ℕ) → i < n → get_or (first_days n k (first_day k)) i 0 ≡ first_day (k + i)
unfolding first_day first_days
entry zero k i h = absurd (omega arith)
entry (suc n) k zero h = ap first_day (omega arith)
entry (suc n) k (suc i) h = entry n (suc k) i (omega arith) ∙ ap first_day (omega arith)

pub reads : (i : ℕ) → i < 1201 → get_or FIRST_DAYS i 0 ≡ first_day i
unfolding first_day
reads i h = ap (λ xs. get_or xs i 0) rule ∙ entry 1201 0 i h ∙ ap first_day (omega arith)
