-- Each part of the test is a call, in the order of the layout; the zone is one of three words.
use Rattle.cond.proofs.Kit.{[], ◌∷◌, and_assoc, and-true, drop, or_assoc, or-false, refl, sym, take}
use Rattle.spelling.specs.Bytes.{is_word, same_bytes, text}
use Rattle.spelling.proofs.Words.{all_long, words_are}
use Rattle.forms.specs.Places.{shape, texts}
use Rattle.sat.proofs.SatSizedForm.has_shape.Goals as goal

pub returns : goal.returns
unfolding shape is_word all_long
returns c = let zone = take 4 (drop 20 c.args.s.now) in
    simp (words_are 4 (texts ("CET " ∷ "CEST" ∷ "UTC " ∷ [])) zone refl, and_assoc, and-true, or-false)
    (simp (sym (or_assoc (same_bytes zone (text "CET ")) (same_bytes zone (text "CEST")) (same_bytes zone (text "UTC "))))
    (simp (c.text_at-4.ensures, c.letter_at-2.ensures, c.letter_at.ensures)
    (simp (c.text_at-3.ensures, c.text_at-2.ensures, c.text_at.ensures, c.pairs_at-2.ensures)
    (simp (c.is_at-3.ensures, c.digits_at.ensures, c.is_at-2.ensures)
    (simp (c.pairs_at.ensures, c.is_at.ensures, and_assoc))))))
