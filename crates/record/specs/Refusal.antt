-- "The numbers of refusal": the paper's number of each case.
use Rattle.std.specs.Prelude.{ℕ}
use Rattle.record.specs.declared.refusal.Refusal.{Refusal}
use Rattle.record.specs.declared.refusal.Refusal.TheVariants as refusal

abbrev pub number_of : Refusal → ℕ
-- "form is not 1..9 (search, new listener: not 1..7)", nor one that document 02 adds
number_of refusal.UnknownForm = 1
-- "input length is not the form's"
number_of refusal.WrongLength = 2
-- "a fixed byte, digit, letter, padding, mark, always-zero element, key or spelling is wrong, or a frame element off the
-- marks is not 0 or 1"
number_of refusal.WrongByte = 3
-- "a number is outside its range"
number_of refusal.OutOfRange = 4
-- "parts disagree"
number_of refusal.Disagreement = 5
-- "SPA sum or frame parity is wrong"
number_of refusal.WrongChecksum = 6
-- "writer: the record is bad"
number_of refusal.BadRecord = 7
-- "writer: a carried field is absent or of the other kind"
number_of refusal.MissingField = 8
-- "writer: form 1 with change and leap both yes; form 8 with an offset not a multiple of 30"
number_of refusal.NotExpressible = 9
-- "writer: the buffer is shorter than the output"
number_of refusal.ShortBuffer = 10
-- "listener state: form not 1..7, more than n-1 bytes kept, or a distance over n"; forms that document 02 adds are no longer barred
number_of refusal.BadState = 11
-- "search: no valid string lies wholly at or after the given start"
number_of refusal.NotFound = 12
-- "listener: a valid string ends fewer than n bytes after the last one handed out"
number_of refusal.Overlap = 13
-- W-206: "no full date or a bad record"
number_of refusal.NoSecond = 14
-- W-207: "a row is needed and this rack has 32"
number_of refusal.NoRow = 15
-- W-207: "rack is not 0 or 1"
number_of refusal.NoRack = 16
-- W-206: "the table is not of 64 rows, the number in use is over 64 or the newest row's last second is impossible or its count over
-- 4,000,000,000"; W-207: "also for a row in use of another rack number or over 32 of one rack, and it reads both racks' newest rows"
number_of refusal.BadTable = 21
