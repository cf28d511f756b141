-- The lines of the yes or no fields: one law for their reader, over the key, the slot and the number of the line.
use Rattle.std.specs.Prelude.{Option, Some}
use Rattle.cond.proofs.Kit.{[], ◌∙◌, ◌≡◌, ap, ap₂, arith, Bool, drop, false, get_or, List, refl, sym, take, true, ℕ, ◌+◌, ◌∷◌, and-false, eq-eqb, length}
use Prim.Native.String.{String}
use Rattle.spelling.specs.Bytes.{same_bytes, text}
use Rattle.spelling.specs.Spelling.{is_spelled, value_of, word}
use Rattle.spelling.proofs.Spelling.{sized_value, spelled_parts}
use Rattle.spelling.proofs.SameBytes.{same_bytes_lem}
use Rattle.cond.proofs.Tests.{both, either_way}
use Rattle.forms.specs.Block.{block_lines, flag_line, variant_at}
use Rattle.forms.specs.Places.{Layout, fixed, layout_width, part, shape, values}
use Rattle.forms.specs.Slots.{Slot}
use Rattle.block_lines.specs.Flags.{flag_read, flag_decoded}
use Rattle.block_lines.specs.Reading.{decoded, line_read, onto, word_layout}
use Rattle.block_lines.specs.declared.state.State.{State}

-- one word alone is spelled where its bytes stand
spelled_word : (m : ℕ) (bs x : List ℕ) → is_spelled (word m bs) x ≡ same_bytes x bs
unfolding is_spelled
spelled_word m bs x =
    either_way (same_bytes x bs) (λ e. simp (eq-eqb _ _ (ap length (same_bytes_lem x bs e)))) (λ e. simp (e, and-false))

-- what a variant of the line tells behind lines that told b
abbrev decoded_in : Layout → List ℕ → State → State
decoded_in ps s b = onto ps (decoded ps (values ps 0 s)) b

-- what a word behind the key tells
abbrev word_value : String → ℕ → List ℕ → List ℕ → ℕ
word_value key m w s = value_of (word m w) (take (length w) (drop (length (text key) + 0) s))

-- the variants of the line tell nothing, no and yes of this slot
abbrev DecodesFlag : String → Slot → List ℕ → State → Type 0
DecodesFlag key f s b =
    (decoded_in (get_or (flag_line key f) 0 []) s b ≡ b)
    × (word_value key 0 (text "no") s ≡ 0 → decoded_in (get_or (flag_line key f) 1 []) s b ≡ flag_decoded f (Some false) b)
    × (word_value key 1 (text "yes") s ≡ 1 → decoded_in (get_or (flag_line key f) 2 []) s b ≡ flag_decoded f (Some true) b)

module _ (key : String) (f : Slot) (s : List ℕ) (b : State) (t : DecodesFlag key f s b) where
  no_shape : shape (word_layout (text key) (text "no")) 0 s ≡ shape (get_or (flag_line key f) 1 []) 0 s
  unfolding shape
  no_shape = rw spelled_word

  yes_shape : shape (word_layout (text key) (text "yes")) 0 s ≡ shape (get_or (flag_line key f) 2 []) 0 s
  unfolding shape
  yes_shape = rw spelled_word

  word_told : (m : ℕ) (w : List ℕ) → shape (fixed (text key) ∷ part (word m w) f ∷ fixed (10 ∷ []) ∷ []) 0 s ≡ true → word_value key m w s ≡ m
  unfolding shape
  word_told m w h =
      let x = take (length w) (drop (length (text key) + 0) s) in
      sized_value x (word m w) (spelled_parts x (word m w) (both (is_spelled (word m w) x) _ (both (same_bytes (take (length (text key)) (drop 0 s)) (text key)) _ h).1).0).0

  -- the size by the word
  sized : (ps : Layout) (n : ℕ) (x : State) → n ≡ layout_width ps → decoded_in ps s b ≡ x → ◌≡◌ {A = Option (ℕ × State)} (Some (n, x)) (Some (layout_width ps, decoded_in ps s b))
  sized ps n x e q = ap₂ (λ i z. Some (i, z)) e (sym q)

  flag_line_lem : flag_read (text key) f s b ≡ line_read (flag_line key f) s b
  unfolding flag_read line_read variant_at
  flag_line_lem = go (shape (get_or (flag_line key f) 0 []) 0 s) refl (shape (get_or (flag_line key f) 1 []) 0 s) refl (shape (get_or (flag_line key f) 2 []) 0 s) refl
    where
      go : (x : Bool) → shape (get_or (flag_line key f) 0 []) 0 s ≡ x → (y : Bool) → shape (get_or (flag_line key f) 1 []) 0 s ≡ y
          → (z : Bool) → shape (get_or (flag_line key f) 2 []) 0 s ≡ z → flag_read (text key) f s b ≡ line_read (flag_line key f) s b
      go true p y q z r = simp p (sized (get_or (flag_line key f) 0 []) _ _ (unfold layout_width in omega arith) t.0)
      go false p true q z r = simp (p, q, no_shape ∙ q) (sized (get_or (flag_line key f) 1 []) _ _ (unfold layout_width in omega arith) (t.1 (word_told 0 (text "no") q)))
      go false p false q true r = simp (p, q, r, no_shape ∙ q, yes_shape ∙ r) (sized (get_or (flag_line key f) 2 []) _ _ (unfold layout_width in omega arith) (t.2 (word_told 1 (text "yes") r)))
      go false p false q false r = simp (p, q, r, no_shape ∙ q, yes_shape ∙ r)

  -- line i, which has number j
  pub flag_read_lem : (i j : ℕ) → i ≡ j → get_or block_lines j [] ≡ flag_line key f → (x : Option (ℕ × State)) → x ≡ flag_read (text key) f s b
      → x ≡ line_read (get_or block_lines i []) s b
  flag_read_lem i j e l x h = h ∙ simp (e, l) flag_line_lem
