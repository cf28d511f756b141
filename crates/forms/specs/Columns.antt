-- The table of the forms: bytes, and the column "carries beside time", its words in the order of the block's lines.
use Rattle.std.specs.Prelude.{Bool, true, false, List, ◌∷◌, ◌++◌, [], ◌≡◌, ℕ}
use Prim.Native.String.{String}
use Rattle.record.specs.declared.sign.SignRule.TheVariants.{OneAbove, OneBelow}
use Rattle.forms.specs.Carries.{Carries}
use Rattle.forms.specs.Fields.Date.{date_word}
use Rattle.forms.specs.Fields.Flag.{is_carried}
use Rattle.forms.specs.Fields.Fraction.{fraction_word}
use Rattle.forms.specs.Fields.Offset.{is_offset}
use Rattle.forms.specs.Fields.Position.{position_word}
use Rattle.forms.specs.Form.{Form, carries}
use Rattle.forms.specs.Frame.{frame}
use Rattle.forms.specs.Serial.{capture, computime, erlangen, racal, rmc, sat, spa, standard, sysplex}

-- a word where the field is carried
abbrev pub word_if : Bool → String → List String
word_if true w = w ∷ []
word_if false w = []

-- the column of what a form carries
abbrev pub column : Carries → List String
column k =
    date_word k.date ++ fraction_word k.fraction ++ word_if k.channel "channel" ++ word_if (is_carried k.sync) "sync"
    ++ word_if (is_carried k.fix) "fix"
    ++ word_if (is_carried k.utc) "utc"
    ++ word_if (is_carried k.summer) "summer"
    ++ word_if (is_carried k.change) "change"
    ++ word_if (is_carried k.leap) "leap"
    ++ word_if (is_offset k.offset) "offset"
    ++ position_word k.position
    ++ word_if (is_carried k.dsp) "dsp"
    ++ word_if (is_carried k.lsp) "lsp"

-- a line of the table
abbrev pub Line : Form → ℕ → List String → Type 0
Line d bytes words = (d.size ≡ bytes) × (column (carries d) ≡ words)

-- the table as document 01 has it, for the forms of one length, and document 02 from form 10 on
pub record Table : Type 0 where
  pub one : Line standard 32 ("full date" ∷ "sync" ∷ "fix" ∷ "utc" ∷ "summer" ∷ "change" ∷ "leap" ∷ [])
  pub two : Line capture 31 ("full date" ∷ "ten-millionths" ∷ "channel" ∷ [])
  pub three : Line erlangen 66 ("full date" ∷ "sync" ∷ "fix" ∷ "summer" ∷ "change" ∷ "leap" ∷ "offset" ∷ "position" ∷ [])
  pub four : Line spa 32 ("full date" ∷ "thousandths" ∷ [])
  pub five : Line racal 16 ("full date" ∷ [])
  pub six : Line sysplex 16 ("day of year" ∷ "sync" ∷ [])
  pub seven : Line computime 24 ("full date" ∷ [])
  pub eight : Line (frame OneAbove) 100 ("full date" ∷ "sync" ∷ "summer" ∷ "offset" ∷ "dsp" ∷ "lsp" ∷ [])
  pub ten : Line sat 29 ("full date" ∷ "sync" ∷ "utc" ∷ "summer" ∷ "change" ∷ [])
  pub eleven : Line (frame OneBelow) 100 ("full date" ∷ "sync" ∷ "summer" ∷ "offset" ∷ "dsp" ∷ "lsp" ∷ [])
  pub twelve : Line rmc 65 ("full date" ∷ "hundredths" ∷ "sync" ∷ "position in minutes" ∷ [])
