-- Windows of a list of bytes: the n bytes from a place on, and the last bytes.
use Rattle.std.specs.Prelude.{List, ℕ, ◌-◌, length, take, drop}

-- the n bytes from place p on, the first place being 0; fewer where the list ends before
abbrev pub window : ℕ → List ℕ → ℕ → List ℕ
window n s p = take n (drop p s)

-- the last m bytes; all where there are no more than m
unfoldable pub last_of : ℕ → List ℕ → List ℕ
last_of m s = drop (length s - m) s
