-- Each number and each letter is a call; the zone tells two fields by its words.
use Rattle.cond.proofs.Kit.{[], ◌∷◌, arith, refl}
use Rattle.spelling.specs.Bytes.{is_word, same_bytes}
use Rattle.spelling.proofs.Words.{all_different}
use Rattle.forms.specs.Carries.{carries_of}
use Rattle.forms.specs.Decode.{decode_channel, decode_date, decode_flag, decode_fraction, decode_minutes, decode_offset, decode_position}
use Rattle.forms.specs.Places.{has, texts, values}
use Rattle.places.proofs.Letters.{flag_letter, word_of}
use Rattle.sat.proofs.SatSizedForm.decode.Goals as goal

pub returns : goal.returns
unfolding carries_of has values decode_date decode_fraction decode_channel decode_flag decode_offset decode_position decode_minutes all_different is_word same_bytes
returns c = let s = c.args.s.now in
    let l = c.requires in
    let zones = texts ("CET " ∷ "CEST" ∷ "UTC " ∷ []) in
    simp (c.number_at.ensures.0, c.number_at-2.ensures.0)
    (simp (c.number_at-3.ensures.0, c.number_at-4.ensures.0)
    (simp (c.number_at-5.ensures.0, c.number_at-6.ensures.0, c.flag_at.ensures)
    (simp (c.word_at.ensures, c.word_at-2.ensures, c.flag_at-2.ensures, c.empty.ensures)
    (simp (flag_letter s 24 (omega arith) 35 32, flag_letter s 25 (omega arith) 32 33)
    (simp (word_of s 20 4 zones 2 (omega arith) refl (omega arith), word_of s 20 4 zones 1 (omega arith) refl (omega arith)))))))
