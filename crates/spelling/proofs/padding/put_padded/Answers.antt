-- The digits are stored, and the leading zeros among them blanked.
use Rattle.cond.proofs.Kit.{◌+◌, ◌-◌, ◌∙◌, ◌≡◌, ◌≤◌, arith, length, sym, ℕ}
use Rattle.spelling.specs.Bytes.{blanked, decimal, digit_of}
use Rattle.spelling.proofs.Base.{spelled_length}
use Rattle.spelling.proofs.Padded.{blanked_length}
use Rattle.spelling.proofs.Stored.{not_stored, room, stored_in}
use Rattle.spelling.proofs.Stores.{digits_blanked}
use Rattle.spelling.proofs.padding.put_padded.Goals as goal

-- padded or not, the digits are w bytes
module _ (w n : ℕ) where
  digits_long : length (decimal w n) ≡ w
  digits_long = spelled_length 10 digit_of w n

  padded_long : length (blanked (decimal w n)) ≡ w
  padded_long = blanked_length (decimal w n) ∙ digits_long

pub returns-else-has_room : goal.returns-else-has_room
returns-else-has_room c = not_stored _ _ _ _ (padded_long _ _) c.has_room.ensures c.if-has_room.false

pub returns-then-has_room : goal.returns-then-has_room
returns-then-has_room c = let a = c.args in
    let r : a.at + a.w ≤ length a.out.now = room c.has_room.ensures c.if-has_room.true in
    let put = c.put_digits.ensures ∙ stored_in _ _ _ (rw (digits_long a.w a.n) r) in
    digits_blanked a.out.now a.at a.w a.n (a.at + a.w - a.at) r (omega arith) put c.blank_zeros.ensures
    ∙ sym (stored_in _ _ _ (rw (padded_long a.w a.n) r))
