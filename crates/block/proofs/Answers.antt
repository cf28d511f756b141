-- The answer of an edition of the block is what its lines come to one behind the other.
use Rattle.std.specs.Prelude.{Option, None, Some, Err}
use Rattle.cond.proofs.Kit.{[], ◌&&◌, ◌++◌, ◌+◌, ◌-◌, ◌<◌, ◌∙◌, ◌∷◌, ◌≡◌, ◌≤◌, add-one, ap, arith, Bool, drop, drop-cons, eqb, false, get_or, le-leb, length, List, not, not-true, refl, suc, sym, take, true, zero, ℕ}
use Rattle.cond.specs.Pick.{pick}
use Rattle.cond.proofs.Tests.{both, either_way}
use Rattle.spelling.proofs.Stores.{lent_length}
use Rattle.record.specs.declared.refusal.Refusal.TheVariants as refusal
use Rattle.forms.specs.Block.{Edition, Line, chosen_layout, variant_at, read_block, layout_at}
use Rattle.forms.specs.Carries.{carries_of}
use Rattle.forms.specs.Decode.{decode_channel, decode_date, decode_flag, decode_fraction, decode_minutes, decode_offset, decode_position}
use Rattle.forms.specs.Fields.Sign.{sign_consistent}
use Rattle.forms.specs.Form.{read_layout}
use Rattle.forms.specs.Places.{Layout, has, layout_width, shape, values}
use Rattle.forms.specs.Slots.{Slot, day_seconds, deletion, leap_second, quality, weekday}
use Rattle.forms.proofs.Variants.{choices_at_lem, choices_at, nonempty, layout_at_lem}
use Rattle.forms.proofs.Lines.{every_variant, every_line, layout_passes}
use Rattle.forms.proofs.Tests.{no_checksum}
use Rattle.block_lines.specs.Reading.{decoded, has_any, line_read}
use Rattle.block_lines.specs.declared.state.State.{State}
use Rattle.block_lines.proofs.Closed.{in_reach, is_closed}
use Rattle.block.specs.Reading.{nothing_decoded, onward, read_lines}
use Rattle.block.proofs.Decoded.{groups}
use Rattle.block.proofs.Fields.{member, none_of}
use Rattle.block.proofs.Lent.{lent_whole}
use Rattle.block.proofs.Once.{any_append, every_group, found_passes, group_passes, placed_once, without}
use Rattle.block.proofs.Plain.{plain_validated}
use Rattle.block.proofs.Reading.{lines_read}

-- slots that no line of a block has
abbrev pub unused : List Slot
unused = weekday ∷ quality ∷ deletion ∷ leap_second ∷ day_seconds ∷ []

-- it has a variant, and each ends in fixed bytes
abbrev pub is_closed_line : Line → Bool
is_closed_line l = nonempty l && every_variant is_closed l

either_order : {A : Type 0} (e t : Bool) (x y : A) → pick e (pick t x y) y ≡ pick t (pick e x y) y
either_order true true x y = refl
either_order true false x y = refl
either_order false true x y = refl
either_order false false x y = refl

none_in_none : (gs : List Slot) → has_any [] gs ≡ false
unfolding has_any has
none_in_none [] = refl
none_in_none (g ∷ gs) = none_in_none gs

without_append : (gs : List Slot) (a b : Layout) → without gs a ≡ true → without gs b ≡ true → without gs (a ++ b) ≡ true
without_append gs a b p q = simp (any_append a b gs, not-true (has_any a gs) p, not-true (has_any b gs) q)

-- what an edition has to show for its reader
pub record Readable (e : Edition) : Type 0 where
  pub filled : every_line nonempty e.lines ≡ true
  pub once : every_group (placed_once e.lines) groups ≡ true
  pub plain : every_line (every_variant (without unused)) e.lines ≡ true

module _ (e : Edition) (f : Readable e) (s : List ℕ) where
  lacking : (g : Slot) → member g unused ≡ true → has (layout_at e.lines 0 s) g ≡ false
  lacking g m =
      rw (layout_at_lem e.lines 0 s)
      (none_of (chosen) unused g (not-true (has_any chosen unused) (layout_passes (without unused) (ap not (none_in_none unused)) (without_append unused) e.lines (choices_at e.lines 0 s) (choices_at_lem e.lines 0 s f.filled) f.plain)) m)
    where
      chosen : Layout
      chosen = chosen_layout e.lines (choices_at e.lines 0 s)

  pub read_block_lem : e.least ≤ length s → length s ≤ e.most → read_block e s ≡ read_lines e.lines s 0 nothing_decoded
  unfolding read_block read_layout layout_width decoded carries_of has values decode_date decode_fraction decode_channel decode_flag decode_minutes decode_offset decode_position sign_consistent member
  read_block_lem l m =
      simp (le-leb e.least (length s) l, le-leb (length s) e.most m, no_checksum s (values (layout_at e.lines 0 s) 0 s), plain_validated (layout_at e.lines 0 s) s (lacking weekday refl) (lacking quality refl) (lacking deletion refl) (lacking leap_second refl) (lacking day_seconds refl))
      (either_order (eqb (layout_width (layout_at e.lines 0 s)) (length s)) (shape (layout_at e.lines 0 s) 0 s) _ _
      ∙ sym (lines_read e.lines [] s f.filled (group_passes (placed_once e.lines) groups f.once) (λ n. simp (none_in_none (get_or groups n [])))))

-- one line more

pub line_passes : (t : Line → Bool) (ls : List Line) (i : ℕ) → every_line t ls ≡ true → i < length ls → t (get_or ls i []) ≡ true
unfolding every_line
line_passes t [] i h b = absurd (omega (arith, b))
line_passes t (l ∷ ls) zero h b = (both (t l) (every_line t ls) h).0
line_passes t (l ∷ ls) (suc i) h b = line_passes t ls i (both (t l) (every_line t ls) h).1 (omega arith)

-- how many bytes the line has, 0 where there is none
abbrev size_of : Option (ℕ × State) → ℕ
size_of None = 0
size_of (Some (n, b)) = n

line_within : (l : Line) (s : List ℕ) (b : State) → is_closed_line l ≡ true → size_of (line_read l s b) ≤ length s
unfolding line_read
line_within l s b h =
    let c = both (nonempty l) (every_variant is_closed l) h in
    either_way (shape (variant_at l 0 s) 0 s)
    (λ q. rw q (omega (arith, in_reach (variant_at l 0 s) 0 s (found_passes is_closed l 0 s c.0 c.1) q)))
    (λ q. rw q (omega arith))

module _ (ls : List Line) (s : List ℕ) (at i : ℕ) (h : i < length ls) (b : State) (x : Option (ℕ × State)) (e : x ≡ line_read (get_or ls i []) (take (length s - at) (drop at s)) b) where
  turn : read_lines (drop i ls) s at b ≡ onward x (λ n y. read_lines (drop (i + 1) ls) s (at + n) y)
  unfolding read_lines
  turn =
      rw (add-one, drop-cons ls i [] h)
      (ap (λ (y : Option (ℕ × State)). onward y (λ n y. read_lines (drop (suc i) ls) s (at + n) y)) (ap (λ (t : List ℕ). line_read (get_or ls i []) t b) (sym (lent_whole s at)) ∙ sym e))

  pub turn_wrong : x ≡ None → read_lines (drop i ls) s at b ≡ Err refusal.WrongByte
  turn_wrong q = turn ∙ ap (λ (y : Option (ℕ × State)). onward y (λ n y. read_lines (drop (i + 1) ls) s (at + n) y)) q

  pub turn_on : (n : ℕ) (y : State) → x ≡ Some (n, y) → read_lines (drop i ls) s at b ≡ read_lines (drop (i + 1) ls) s (at + n) y
  turn_on n y q = turn ∙ ap (λ (y : Option (ℕ × State)). onward y (λ n y. read_lines (drop (i + 1) ls) s (at + n) y)) q

  pub turn_within : every_line is_closed_line ls ≡ true → at ≤ length s → (n : ℕ) (y : State) → x ≡ Some (n, y) → at + n ≤ length s
  turn_within c l n y q =
      omega (arith, ap size_of (sym q ∙ e), line_within (get_or ls i []) (take (length s - at) (drop at s)) b (line_passes is_closed_line ls i c h), lent_length s at)
