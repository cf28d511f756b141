-- The first edition shows what the readers of its lines ask, and its answers to other lengths.
use Rattle.std.specs.Prelude.{Err}
use Rattle.cond.proofs.Kit.{◌<◌, ◌≡◌, ap, arith, drop, eqb, le-leb, length, List, lt-leb, refl, true, ℕ}
use Rattle.cond.specs.Pick.{pick}
use Rattle.record.specs.declared.refusal.Refusal.TheVariants as refusal
use Rattle.forms.specs.Block.{block_lines, first_edition, read_block}
use Rattle.forms.specs.Places.{has}
use Rattle.forms.proofs.Lines.{every_variant, every_line}
use Rattle.block_lines.specs.Reading.{has_any}
use Rattle.block_lines.specs.declared.state.State.{State}
use Rattle.block_lines.proofs.Closed.{is_closed}
use Rattle.block.specs.Reading.{read_lines, validated_state}
use Rattle.block.proofs.Answers.{Readable, is_closed_line}
use Rattle.block.proofs.Once.{every_group, placed_once}

pub all_closed : every_line is_closed_line block_lines ≡ true
unfolding every_line every_variant is_closed
all_closed = refl

pub readable : Readable first_edition
unfolding every_line every_variant every_group placed_once has_any has
readable = record { filled = refl; once = refl; plain = refl }

module _ (s : List ℕ) where
  pub ended : (at : ℕ) (b : State) (i : ℕ) → i ≡ 14
      → read_lines (drop i block_lines) s at b ≡ pick (eqb at (length s)) (validated_state b) (Err refusal.WrongByte)
  unfolding read_lines
  ended at b i e = ap (λ (k : ℕ). read_lines (drop k block_lines) s at b) e

  pub too_short_lem : length s < 118 → read_block first_edition s ≡ Err refusal.WrongLength
  unfolding read_block
  too_short_lem l = simp (lt-leb 118 (length s) l)

  pub too_long : 174 < length s → read_block first_edition s ≡ Err refusal.WrongLength
  unfolding read_block
  too_long l = simp (le-leb 118 (length s) (omega arith), lt-leb (length s) 174 l)
