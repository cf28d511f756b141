-- Numbers stored in two halves are all the numbers of a record, at the head of the buffer.
use Rattle.std.specs.Prelude.{Ok, Err}
use Rattle.cond.proofs.Kit.{◌<◌, ◌≡◌, ◌≤◌, le-leb, length, List, lt-leb, refl, sets, sets-eq, ℕ}
use Rattle.record.specs.declared.Record.{Record}
use Rattle.record.specs.declared.refusal.Refusal.TheVariants as refusal
use Rattle.flat_record.specs.Encode.{Put, head_of, numbers_of, put_answer, size, tail_of}

module _ (r : Record) (before : List ℕ) where
  pub no_room : length before < size → Put r (Err refusal.ShortBuffer) before before
  unfolding put_answer
  no_room h = record { answer = rw (lt-leb size (length before) h); left = refl }

  pub all_stored : size ≤ length before → {a b : List ℕ} → a ≡ sets before 0 (head_of r) → b ≡ sets a 12 (tail_of r) → Put r (Ok size) before b
  unfolding put_answer head_of tail_of
  all_stored h ea eb = record { answer = rw (le-leb size (length before) h); left = rw (eb, ea) (sets-eq (numbers_of r) before 0 h) }
