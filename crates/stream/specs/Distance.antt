-- The distance since the last record, and the listener's step over the kept bytes and the distance.
use Rattle.std.specs.Prelude.{List, [], ◌≡◌, ℕ, ◌+◌, ◌-◌, ◌≤◌, ◌<◌, min, ltb, length, Option, None, Some}
use Rattle.cond.specs.Pick.{pick}
use Rattle.stream.specs.Answer.{Answer, handed, nothing, refused}
use Rattle.stream.specs.Heard.{heard_at}
use Rattle.stream.specs.Listener.{hit, kept_after}

-- "A state holds .. up to n-1 last bytes, and the distance since the last record"
pub record State : Type 0 where
  pub kept : List ℕ
  pub distance : ℕ

-- "fresh means no bytes and distance n"
abbrev pub fresh : ℕ → State
fresh n = record { kept = []; distance = n }

module _ {R : Type 0} where
  -- "Refusal 13 stands in place of such a record if the distance held before this byte is under n-1"
  abbrev pub unless_overlap : ℕ → ℕ → Option R → Answer R
  unless_overlap n d None = nothing
  unless_overlap n d (Some r) = pick (ltb d (n - 1)) (refused 13) (handed r)

  -- "Handing out sets the distance to 0; any other byte adds one up to n."
  abbrev pub distance_after : ℕ → ℕ → Answer R → ℕ
  distance_after n d (handed r) = 0
  distance_after n d nothing = min n (d + 1)
  distance_after n d (refused c) = min n (d + 1)

  -- the answer of the step
  unfoldable pub step_answer : ℕ → (List ℕ → Option R) → State → ℕ → Answer R
  step_answer n valid s b = unless_overlap n s.distance (hit n valid s.kept b)

  -- the state that the step leaves; after a refusal 13 "the state moves on as for any other byte"
  unfoldable pub step_next : ℕ → ℕ → (List ℕ → Option R) → State → ℕ → State
  step_next m n valid s b =
      record { kept = kept_after m s.kept b; distance = distance_after n s.distance (step_answer n valid s b) }

  -- "the distance since the last record, capped at n", d, after the bytes s
  pub record Since (n : ℕ) (valid : List ℕ → Option R) (s : List ℕ) (d : ℕ) : Type 0 where
    pub capped : d ≤ n
    -- the last d bytes handed out nothing
    pub none_since : (i : ℕ) → i < d → i < length s → heard_at n valid s (length s - i) ≡ None
    -- the byte in front of them handed out a record, where d is below n
    pub last_there : d < n → (r : R) × (heard_at n valid s (length s - d) ≡ Some r)

-- a state that refusal 11 does not name: no "more than" m "bytes kept", and no "distance over n"
pub record Fits (m n : ℕ) (s : State) : Type 0 where
  pub kept_fits : length s.kept ≤ m
  pub distance_fits : s.distance ≤ n
