-- The remainder by 100 has the last two digits: its quotient by ten, and what that leaves.
use Rattle.cond.proofs.Kit.{[], ◌%◌, ◌*◌, ◌+◌, ◌-◌, ◌/◌, ◌^◌, ◌∙◌, ◌∷◌, ◌≡◌, ap, arith, ℕ}
use Rattle.spelling.specs.Bytes.{decimal, spelled_in}
use Rattle.spelling.specs.Stored.{stored}
use Rattle.spelling.proofs.decimal.put_pair.Goals as goal

digits : (n r : ℕ) → r ≡ n % 100 → (48 + r / 10) ∷ (48 + (r - r / 10 * 10)) ∷ [] ≡ decimal 2 n
unfolding spelled_in
digits n r e =
    let tens : 48 + r / 10 ≡ n / 10 ^ 1 % 10 + 48 = omega (arith, e) in
    let ones : 48 + (r - r / 10 * 10) ≡ n % 10 ^ 1 / 10 ^ 0 % 10 + 48 = omega (arith, e) in
    rw (ones, tens)

pub returns : goal.returns
returns c = c.put_bytes.ensures ∙ ap (stored _ _) (digits _ _ c.last_two-rest.ensures)
