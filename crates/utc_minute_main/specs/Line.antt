-- The line that is printed for what a telegram tells.
use Rattle.record.specs.declared.refusal.Refusal.{Refusal}
use Rattle.std.specs.Prelude.{List, [], ◌∷◌, ◌++◌, ℕ, Option, None, Some, Result, Ok, Err}
use Rattle.std.specs.Fmt.{decimal}
use Rattle.spelling.specs.Bytes.{text}
use Rattle.record.specs.Refusal.{number_of}

-- the minute of the day in digits, or that none was sent, or the number of the refusal
abbrev pub line_of : Result (Option ℕ) Refusal → List ℕ
line_of (Ok (Some n)) = decimal n ++ (10 ∷ [])
line_of (Ok None) = text "absent" ++ (10 ∷ [])
line_of (Err why) = text "refused " ++ (decimal (number_of why) ++ (10 ∷ []))
