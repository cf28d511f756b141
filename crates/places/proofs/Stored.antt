-- Storing a layout place by place leaves its bytes, and the bytes before and behind as they were.
use Rattle.cond.proofs.Kit.{[], ◌++◌, ◌+◌, ◌∙◌, ◌∷◌, ◌≡◌, ◌≤◌, add-zero, ap, append_assoc, arith, drop, drop-append-add, drop-drop, length, length-append, length-take-le, List, sets-eq, sym, take, take-append-drop, take_at, true, ℕ}
use Rattle.cond.proofs.Tests.{both}
use Rattle.spelling.specs.Stored.{stored}
use Rattle.spelling.proofs.Stored.{stored_in, stored_length}
use Rattle.record.specs.declared.Record.{Record}
use Rattle.record.specs.Record.{is_good}
use Rattle.forms.specs.Form.{Form, bytes_by, is_expressible}
use Rattle.forms.specs.Places.{Layout, bytes_of, placed, layout_width, width}
use Rattle.forms.specs.Slots.{Values}
use Rattle.forms.specs.Encode.{encode}
use Rattle.forms.proofs.Layouts.{placed_length, roomy, roomy_layout, sound_place, sound_layout}
use Rattle.forms.proofs.Sound.{is_sound_form, sound_form}
use Rattle.forms.proofs.WriteRead.{written, written_roomy}
use Rattle.places.specs.Stores.{stores}

-- the buffer with x at place k
abbrev laid : List ℕ → ℕ → List ℕ → List ℕ
laid o k x = (take k o ++ x) ++ drop (k + length x) o

module _ (o x : List ℕ) (k n : ℕ) (e : length x ≡ n) (h : k + n ≤ length o) where
  front_length : length (take k o ++ x) ≡ n + k
  front_length = length-append (take k o) x ∙ omega (arith, length-take-le k o (omega arith))

  laid_front : take (n + k) (laid o k x) ≡ take k o ++ x
  laid_front = take_at (take k o ++ x) (drop (k + length x) o) (n + k) front_length

  laid_back : (m : ℕ) → drop (n + k + m) (laid o k x) ≡ drop (k + (n + m)) o
  laid_back m =
      let q : k + length x + m ≡ k + (n + m) = omega arith in
      ap (λ (j : ℕ). drop (j + m) (laid o k x)) (sym front_length) ∙ drop-append-add (take k o ++ x) (drop (k + length x) o) m
      ∙ drop-drop m (k + length x) o
      ∙ ap (λ (j : ℕ). drop j o) q

pub stores_laid : (ps : Layout) (k : ℕ) (v : Values) (o : List ℕ) → sound_layout ps ≡ true → roomy_layout ps v ≡ true → k + layout_width ps ≤ length o
    → stores ps k v o ≡ take k o ++ (bytes_of ps v ++ drop (k + layout_width ps) o)
unfolding stores bytes_of layout_width sound_layout roomy_layout
stores_laid [] k v o s r h = sym (ap (λ (j : ℕ). take k o ++ drop j o) (add-zero k) ∙ take-append-drop k o)
stores_laid (p ∷ ps) k v o s r h =
    let a = both (sound_place p) (sound_layout ps) s in
    let b = both (roomy p v) (roomy_layout ps v) r in
    let x : List ℕ = placed p v in
    let l : length x ≡ width p = placed_length p v a.0 b.0 in
    let put : stored o k x ≡ laid o k x = stored_in o k x (omega arith) ∙ sets-eq x o k (omega arith) in
    let there = stores_laid ps (width p + k) v (stored o k x) a.1 b.1 (omega (arith, stored_length o k x)) in
    there
    ∙ ap (λ (y : List ℕ). take (width p + k) y ++ (bytes_of ps v ++ drop (width p + k + layout_width ps) y)) put
    ∙ ap (λ (y : List ℕ). y ++ (bytes_of ps v ++ drop (width p + k + layout_width ps) (laid o k x))) (laid_front o x k (width p) l (omega arith))
    ∙ ap (λ (y : List ℕ). (take k o ++ x) ++ (bytes_of ps v ++ y)) (laid_back o x k (width p) l (omega arith) (layout_width ps))
    ∙ simp append_assoc

-- a layout stored in two pieces
pub stores_append : (ps qs : Layout) (k : ℕ) (v : Values) (o : List ℕ) → stores (ps ++ qs) k v o ≡ stores qs (layout_width ps + k) v (stores ps k v o)
unfolding stores layout_width
stores_append [] qs k v o =
    let e : k ≡ 0 + k = omega arith in
    ap (λ (j : ℕ). stores qs j v o) e
stores_append (p ∷ ps) qs k v o =
    let e : layout_width ps + (width p + k) ≡ width p + layout_width ps + k = omega arith in
    stores_append ps qs (width p + k) v (stored o k (placed p v))
    ∙ ap (λ (j : ℕ). stores qs j v (stores ps (width p + k) v (stored o k (placed p v)))) e

-- a form stored from the head of a buffer
pub stores_form : (d : Form) → is_sound_form d ≡ true → (r : Record) → is_good r ≡ true → is_expressible d.layout (encode r) ≡ true → (o : List ℕ) → d.size ≤ length o
    → stores d.layout 0 (written d r) o ≡ bytes_by d (encode r) ++ drop d.size o
unfolding bytes_by
stores_form d t r g w o h =
    let s = sound_form d t in
    let e = s.sized in
    let q : 0 + layout_width d.layout ≡ d.size = omega arith in
    stores_laid d.layout 0 (written d r) o s.layout_sound (written_roomy d s r g w) (omega arith)
    ∙ ap (λ (n : ℕ). bytes_of d.layout (written d r) ++ drop n o) q
