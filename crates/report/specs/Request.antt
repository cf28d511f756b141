-- The first line of the program's input: "one byte `1`..`7`, LF".
use Rattle.std.specs.Prelude.{◌&&◌, List, [], ◌∷◌, ◌++◌, ℕ, eqb, length, get_or}
use Rattle.cond.specs.Pick.{pick}
use Rattle.spelling.specs.Bytes.{digit_value, is_digit, text}
use Rattle.forms.specs.Forms.{is_serial}

-- the form that a line asks for, 0 where it is "bad or missing"
unfoldable pub form_of : List ℕ → ℕ
form_of line =
    pick (eqb (length line) 2 && (eqb (get_or line 1 0) 10 && (is_digit (get_or line 0 0) && is_serial (digit_value (get_or line 0 0))))) (digit_value (get_or line 0 0)) 0

-- "A bad or missing first line prints `refused=1` alone. Every printed line ends in LF."
unfoldable pub refused_line : List ℕ
refused_line = text "refused=1" ++ (10 ∷ [])
