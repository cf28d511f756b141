-- Each number and each letter is a call; a shared letter tells two fields.
use Rattle.cond.proofs.Kit.{arith, refl}
use Rattle.spelling.specs.Bytes.{is_word, letters, same_bytes, text}
use Rattle.spelling.proofs.Words.{all_different}
use Rattle.forms.specs.Carries.{carries_of}
use Rattle.forms.specs.Decode.{decode_channel, decode_date, decode_flag, decode_fraction, decode_minutes, decode_offset, decode_position}
use Rattle.forms.specs.Places.{has, values}
use Rattle.places.proofs.Letters.{flag_letter, same_byte, word_of}
use Rattle.standard.proofs.StandardSizedForm.decode.Goals as goal

pub returns : goal.returns
unfolding carries_of has values decode_date decode_fraction decode_channel decode_flag decode_offset decode_position decode_minutes all_different is_word letters same_bytes
returns c = let s = c.args.s.now in
    let l = c.requires in
    let zones = letters (text " SU") in
    let notices = letters (text " A!") in
    simp c.number_at.ensures.0
    (simp (c.number_at-2.ensures.0, c.number_at-3.ensures.0)
    (simp (c.number_at-4.ensures.0, c.number_at-5.ensures.0)
    (simp (c.number_at-6.ensures.0, c.flag_at.ensures, c.flag_at-2.ensures)
    (simp (c.yes_at.ensures, c.yes_at-2.ensures)
    (simp (c.yes_at-3.ensures, c.yes_at-4.ensures, c.empty.ensures, flag_letter s 27 (omega arith) 35 32)
    (simp (flag_letter s 28 (omega arith) 42 32, word_of s 29 1 zones 2 (omega arith) refl (omega arith), word_of s 29 1 zones 1 (omega arith) refl (omega arith))
    (simp (word_of s 30 1 notices 2 (omega arith) refl (omega arith), word_of s 30 1 notices 1 (omega arith) refl (omega arith))
    (simp (same_byte s 29 (omega arith) 85, same_byte s 29 (omega arith) 83, same_byte s 30 (omega arith) 33, same_byte s 30 (omega arith) 65)))))))))
