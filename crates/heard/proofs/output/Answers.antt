-- A list of n times 0 has n elements; the law over n spares counting them.
use Rattle.cond.proofs.Kit.{◌≡◌, length, length-replicate, replicate, sym, ℕ}
use Rattle.heard.proofs.output.Goals as goal

zeros : (n : ℕ) → n ≡ length {A = ℕ} (replicate n 0)
zeros n = sym (length-replicate n 0)

pub returns : goal.returns
returns c = zeros 720896
