-- Inner: degrees and ten-thousandths, as `bbb.bbbbn` and `lll.lllle` spell them.
use Rattle.std.specs.Prelude.{Bool, List, [], ◌∷◌, ℕ, ◌+◌, ◌/◌, ◌%◌, get_or}
use Rattle.cond.specs.Pick.{one_if}
use Rattle.spelling.specs.Bytes.{blanked, decimal, letters}
use Rattle.spelling.specs.Stored.{stored}

-- so many ten-thousandths stored at k, with the second letter where the test holds
abbrev pub degrees_stored : List ℕ → ℕ → List ℕ → Bool → ℕ → List ℕ
degrees_stored o k ls t n =
    stored
    (stored (stored (stored o k (blanked (decimal 3 (n / 10000)))) (k + 3) (46 ∷ [])) (k + 4) (decimal 4 (n % 10000)))
    (k + 8)
    (get_or (letters ls) (one_if t) [])
