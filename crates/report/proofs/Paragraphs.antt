-- A good record's block and empty line: how many bytes they have, and what writing them leaves in a buffer.
use Rattle.cond.proofs.Kit.{[], ◌++◌, ◌+◌, ◌<◌, ◌∙◌, ◌∷◌, ◌≡◌, ◌≤◌, add-one, ap, append_snoc, arith, drop, drop-cons, get_or, length, length-append, append_assoc, drop-append-le, drop-drop, length-drop, length-take-le, List, set, set_at, sets, sets-eq, sym, take, take-append-drop, true, ℕ}
use Rattle.record.specs.declared.Record.{Record}
use Rattle.record.specs.Record.{is_good}
use Rattle.forms.specs.Block.{block_of, first_edition}
use Rattle.forms.specs.Form.{bytes_by}
use Rattle.forms.specs.Encode.{encode}
use Rattle.forms.proofs.Block.{block_length, block_size}
use Rattle.forms.proofs.FirstEdition.{first_sound}
use Rattle.block.specs.Lines.{Put}
use Rattle.block.proofs.Layouts.{put_left, put_size}
use Rattle.report.specs.Printed.{paragraph}

module _ (r : Record) (g : is_good r ≡ true) where
  block_long : length (bytes_by (block_of first_edition r) (encode r)) ≡ (block_of first_edition r).size
  block_long = block_length first_edition first_sound r g

  paragraph_long : length (paragraph r) ≡ (block_of first_edition r).size + 1
  unfolding paragraph
  paragraph_long = length-append (bytes_by (block_of first_edition r) (encode r)) (10 ∷ []) ∙ rw block_long

  pub paragraph_most : length (paragraph r) ≤ 175
  paragraph_most = omega (arith, paragraph_long, block_size first_edition first_sound r g)

-- the block as its writer left it, closed by an LF
module _ {r : Record} (g : is_good r ≡ true) {out after : List ℕ} (room : 175 ≤ length out) {n : ℕ} (h : Put r n out after) where
  left : after ≡ bytes_by (block_of first_edition r) (encode r) ++ drop n out
  left = put_left r g room h

  inside : n < length out
  inside = omega (arith, put_size r g room h, block_size first_edition first_sound r g)

  pub closes : n < length after
  closes = omega (arith, inside, put_size r g room h, block_long r g, ap length left, length-append (bytes_by (block_of first_edition r) (encode r)) (drop n out), length-drop n out)

  pub closed_long : n + 1 ≡ length (paragraph r)
  closed_long = omega (arith, put_size r g room h, paragraph_long r g)

  pub closed : set after n 10 ≡ paragraph r ++ drop (n + 1) out
  unfolding paragraph
  closed =
      let bytes = bytes_by (block_of first_edition r) (encode r) in
      rw (left, drop-cons out n 0 inside, set_at bytes (get_or out n 0) _ 10 n (block_long r g ∙ sym (put_size r g room h)), add-one)
      (sym (append_snoc bytes 10 _))

-- a part lent from a column on: bytes stored at its head are stored at that column
module _ (x : List ℕ) (at m : ℕ) (fits : at + m ≤ length x) where
  pub part_length : length (take m (drop at x)) ≡ m
  part_length = length-take-le m (drop at x) (omega (arith, length-drop at x))

  pub part_stored : (y v : List ℕ) (k : ℕ) → length v ≤ m → k ≡ length v → y ≡ v ++ drop k (take m (drop at x))
      → take at x ++ (y ++ drop m (drop at x)) ≡ sets x at v
  part_stored y v k l e q =
      let rest : drop k (take m (drop at x)) ++ drop m (drop at x) ≡ drop (at + length v) x = sym (drop-append-le k (take m (drop at x)) _ (omega (arith, part_length))) ∙ rw (take-append-drop, drop-drop, e) in
      rw (q, append_assoc, rest, sets-eq v x at (omega arith), append_assoc)
