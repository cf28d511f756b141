-- Lines read one behind the other are the layout found in the bytes: each line adds to the layout so far, and to what it tells.
use Rattle.std.specs.Prelude.{Option, None, Some, Result, Err}
use Rattle.record.specs.declared.Record.{Record}
use Rattle.record.specs.declared.refusal.Refusal.{Refusal}
use Rattle.cond.proofs.Kit.{[], ◌&&◌, ◌++◌, ◌+◌, ◌∙◌, ◌∷◌, ◌≡◌, ap, append_assoc, append-nil, ap₂, arith, Bool, drop, eqb, false, fun_ext, get_or, length, List, refl, sym, true, ℕ}
use Rattle.cond.specs.Pick.{pick}
use Rattle.cond.proofs.Tests.{both}
use Rattle.record.specs.declared.refusal.Refusal.TheVariants as refusal
use Rattle.forms.specs.Block.{Line, variant_at, layout_at}
use Rattle.forms.specs.Places.{Layout, layout_width, shape, values}
use Rattle.forms.proofs.Append.{shape_append, width_append}
use Rattle.forms.proofs.Variants.{nonempty}
use Rattle.forms.proofs.Lines.{every_line}
use Rattle.block_lines.specs.Reading.{decoded, has_any, line_read, onto}
use Rattle.block_lines.specs.declared.state.State.{State}
use Rattle.block.specs.Reading.{onward, read_lines, validated_state}
use Rattle.block.proofs.Columns.{variant_head, shape_head, values_head}
use Rattle.block.proofs.Decoded.{groups, encode_append}
use Rattle.block.proofs.Once.{apart_here, clear, clear_next, rest_once, placed_once}

-- what a layout tells
abbrev pub decoded_by : Layout → List ℕ → State
decoded_by ps s = decoded ps (values ps 0 s)

abbrev wrong : Result Record Refusal
wrong = Err refusal.WrongByte

-- the answer where the layout takes all bytes
abbrev pub whole : Layout → List ℕ → Result Record Refusal
whole ps s = pick (eqb (layout_width ps) (length s)) (validated_state (decoded_by ps s)) wrong

-- a line at a column
line_at : (l : Line) (k : ℕ) (s : List ℕ) (b : State)
    → line_read l (drop k s) b
    ≡ pick (shape (variant_at l k s) k s) (Some (layout_width (variant_at l k s), onto (variant_at l k s) (decoded (variant_at l k s) (values (variant_at l k s) k s)) b)) None
unfolding line_read
line_at l k s b =
    let v : values (variant_at l k s) k s ≡ values (variant_at l k s) 0 (drop k s) = fun_ext (values_head k s (variant_at l k s)) in
    rw (sym (variant_head k s l), sym (shape_head k s (variant_at l k s)), sym v)

-- the layout so far and all that lines add to it
abbrev Read : List Line → Layout → List ℕ → Type 0
Read ls ps s =
    read_lines ls s (layout_width ps) (decoded_by ps s)
    ≡ pick (shape (layout_at ls (layout_width ps) s) (layout_width ps) s) (whole (ps ++ layout_at ls (layout_width ps) s) s) wrong

module _ (l : Line) (ls : List Line) (ps : Layout) (s : List ℕ) where
  -- the variant found, and the layout that the lines behind it have
  abbrev found_layout : Layout
  found_layout = variant_at l (layout_width ps) s

  abbrev behind : Layout
  behind = layout_at ls (layout_width found_layout + layout_width ps) s

  one_more : ((n : ℕ) → has_any found_layout (get_or groups n []) ≡ true → has_any ps (get_or groups n []) ≡ false) → Read ls (ps ++ found_layout) s → Read (l ∷ ls) ps s
  unfolding read_lines layout_at
  one_more a h =
      ap (λ (x : Option (ℕ × State)). onward x (λ n b. read_lines ls s (layout_width ps + n) b)) (line_at l (layout_width ps) s (decoded_by ps s)) ∙ go (shape found_layout (layout_width ps) s)
      ∙ ap (λ (t : Bool). pick t (whole (ps ++ (found_layout ++ behind)) s) wrong) (sym (shape_append found_layout behind (layout_width ps) s))
    where
      w : layout_width (ps ++ found_layout) ≡ layout_width found_layout + layout_width ps
      w = omega (arith, width_append ps found_layout)

      v : layout_width ps + layout_width found_layout ≡ layout_width (ps ++ found_layout)
      v = omega (arith, width_append ps found_layout)

      fitting : read_lines ls s (layout_width ps + layout_width found_layout) (onto found_layout (decoded found_layout (values found_layout (layout_width ps) s)) (decoded_by ps s))
          ≡ pick (shape behind (layout_width found_layout + layout_width ps) s) (whole (ps ++ (found_layout ++ behind)) s) wrong
      fitting =
          ap₂ (read_lines ls s) v (sym (encode_append ps found_layout s a)) ∙ h
          ∙ ap (λ (k : ℕ). pick (shape (layout_at ls k s) k s) (whole ((ps ++ found_layout) ++ layout_at ls k s) s) wrong) w
          ∙ ap (λ (qs : Layout). pick (shape behind (layout_width found_layout + layout_width ps) s) (whole qs s) wrong) (append_assoc ps found_layout behind)

      go : (t : Bool)
          → onward (pick t (Some (layout_width found_layout, onto found_layout (decoded found_layout (values found_layout (layout_width ps) s)) (decoded_by ps s))) None) (λ n b. read_lines ls s (layout_width ps + n) b)
          ≡ pick (t && shape behind (layout_width found_layout + layout_width ps) s) (whole (ps ++ (found_layout ++ behind)) s) wrong
      go true = fitting
      go false = refl

pub lines_read : (ls : List Line) (ps : Layout) (s : List ℕ) → every_line nonempty ls ≡ true → ((n : ℕ) → placed_once ls (get_or groups n []) ≡ true)
    → ((n : ℕ) → clear ps ls (get_or groups n []) ≡ true) → Read ls ps s
unfolding every_line
lines_read [] ps s f o c = unfold read_lines layout_at shape in ap (λ (qs : Layout). whole qs s) (sym (append-nil ps))
lines_read (l ∷ ls) ps s f o c =
    let e = both (nonempty l) (every_line nonempty ls) f in
    one_more l ls ps s (λ n. apart_here ps l ls (layout_width ps) s e.0 (get_or groups n []) (c n))
    (lines_read ls (ps ++ variant_at l (layout_width ps) s) s e.1 (λ n. rest_once l ls (get_or groups n []) (o n)) (λ n. clear_next ps l ls (layout_width ps) s e.0 (get_or groups n []) (c n) (o n)))
