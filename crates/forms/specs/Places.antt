-- A form's row of places: how many bytes each takes, what may stand there, and the value that it spells.
use Rattle.std.specs.Prelude.{Bool, true, false, ◌&&◌, ◌||◌, List, [], ◌∷◌, ◌++◌, ℕ, ◌+◌, eqb, ltb, length, take, drop}
use Prim.Native.String.{String}
use Rattle.cond.specs.Pick.{pick}
use Rattle.spelling.specs.Bytes.{letters, same_bytes, text}
use Rattle.spelling.specs.Spelling.{Spelling, bits, digits, grouped, hex, is_spelled, padded, spell, spelled_width, value_of, word, words}
use Rattle.forms.specs.Slots.{Slot, Values, same}

-- a place is fixed bytes or the spelling of a slot
pub data Place : Type 0 where
  fixed : List ℕ → Place
  part : Spelling → Slot → Place

-- a layout is a row of places
abbrev pub Layout : Type 0
Layout = List Place

-- the bytes of a place
abbrev pub width : Place → ℕ
width (fixed bs) = length bs
width (part c f) = spelled_width c

-- the bytes of a layout
unfoldable pub layout_width : Layout → ℕ
layout_width [] = 0
layout_width (p ∷ ps) = width p + layout_width ps

-- these bytes may stand at the place
abbrev pub fits : Place → List ℕ → Bool
fits (fixed bs) x = same_bytes x bs
fits (part c f) x = is_spelled c x

-- "a fixed byte, digit, letter, padding, mark, always-zero element, key or spelling is wrong" where this is false; the
-- layout's first byte is byte k
unfoldable pub shape : Layout → ℕ → List ℕ → Bool
shape [] k s = true
shape (p ∷ ps) k s = fits p (take (width p) (drop k s)) && shape ps (width p + k) s

-- the place spells the slot
abbrev pub is_of : Slot → Place → Bool
is_of f (fixed bs) = false
is_of f (part c g) = same f g

-- the layout has a place for the slot
unfoldable pub has : Layout → Slot → Bool
has [] f = false
has (p ∷ ps) f = is_of f p || has ps f

-- the number that the bytes of a place spell
abbrev pub value_at : Place → List ℕ → ℕ
value_at (fixed bs) x = 0
value_at (part c g) x = value_of c x

-- what the bytes from k on tell for a slot, 0 where the layout has no place for it
unfoldable pub values : Layout → ℕ → List ℕ → Values
values [] k s f = 0
values (p ∷ ps) k s f = pick (is_of f p) (value_at p (take (width p) (drop k s))) (values ps (width p + k) s f)

-- the bytes of a place where v is told
abbrev pub placed : Place → Values → List ℕ
placed (fixed bs) v = bs
placed (part c f) v = spell c (v f)

-- the bytes of a layout that tells v
unfoldable pub bytes_of : Layout → Values → List ℕ
bytes_of [] v = []
bytes_of (p ∷ ps) v = placed p v ++ bytes_of ps v

-- a word of the list is there for what v tells
abbrev pub has_word : Place → Values → Bool
has_word (fixed bs) v = true
has_word (part (digits w) f) v = true
has_word (part (hex w) f) v = true
has_word (part (padded w) f) v = true
has_word (part (bits w) f) v = true
has_word (part (grouped b gs) f) v = true
has_word (part (words w ws) f) v = ltb (v f) (length ws)
has_word (part (word m bs) f) v = eqb (v f) m

-- each word list of the layout has a word for what v tells
unfoldable pub has_words : Layout → Values → Bool
has_words [] v = true
has_words (p ∷ ps) v = has_word p v && has_words ps v

-- the places as the layouts write them

-- fixed bytes, quoted
abbrev pub lit : String → Place
lit t = fixed (text t)

-- one digit
abbrev pub one : Slot → Place
one f = part (digits 1) f

-- two digits
abbrev pub two : Slot → Place
two f = part (digits 2) f

-- one of the quoted letters; the first means 0
abbrev pub letter : Slot → String → Place
letter f t = part (words 1 (letters (text t))) f

abbrev pub texts : List String → List (List ℕ)
texts [] = []
texts (t ∷ ts) = text t ∷ texts ts

-- one of the quoted words of w letters; the first means 0
abbrev pub one_of : Slot → ℕ → List String → Place
one_of f w ts = part (words w (texts ts)) f
