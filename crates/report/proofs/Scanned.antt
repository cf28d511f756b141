-- The records still to come, stored from a column on, make of the buffer as it is what all records make of the buffer at entry.
use Rattle.search.specs.declared.Found as search
use Rattle.std.specs.Prelude.{Result, Ok, Err}
use Rattle.report.specs.Printed.{listed}
use Rattle.cond.proofs.Kit.{◌*◌, ◌++◌, ◌+◌, ◌-◌, ◌/◌, ◌<◌, ◌∙◌, ◌≡◌, ◌≤◌, ap, arith, drop, le-leb, length, length-append, length-sets, List, lt-leb, refl, sets, sets-eq, sym, take, true, ℕ}
use Rattle.record.specs.declared.Record.{Record}
use Rattle.record.specs.declared.refusal.Refusal.{Refusal}
use Rattle.record.specs.declared.refusal.Refusal.TheVariants as refusal
use Rattle.record.specs.Record.{is_good}
use Rattle.forms.specs.Valid.{length_of, valid_of}
use Rattle.spelling.proofs.Stores.{sets_append}
use Rattle.serial.proofs.Lengths.{length_least, not_serial, some_serial}
use Rattle.serial.proofs.Strings.{valid_good}
use Rattle.stream.specs.Search.{FirstAt, search_from}
use Rattle.stream.specs.Window.{window}
use Rattle.search.specs.Answer.{search_of}
use Rattle.report.specs.Printed.{WroteRecords, paragraph, printed, records_in, records_answer}
use Rattle.report.proofs.Found.{first_at, no_more, one_more}
use Rattle.report.proofs.Paragraphs.{paragraph_most, part_stored}

-- the records from a place on
abbrev records_from : ℕ → List ℕ → ℕ → List Record
records_from form s p = search_from (length_of form) (valid_of form) s p

pub record Progress (form : ℕ) (s before out : List ℕ) (telegrams bytes start : ℕ) : Type 0 where
  pub known : length_of form ≡ 0 → ⊥
  pub room : length s ≤ length before / 11
  pub inside : start ≤ length s
  pub few : telegrams ≤ start
  pub short : bytes ≤ 11 * start
  pub same_room : length out ≡ length before
  pub counted : telegrams + length (records_from form s start) ≡ length (records_in form s)
  pub sized : bytes + length (printed (records_from form s start)) ≡ length (printed (records_in form s))
  pub stored : sets before 0 (printed (records_in form s)) ≡ sets out bytes (printed (records_from form s start))

module _ (form : ℕ) (s before : List ℕ) where
  pub no_form : length_of form ≡ 0 → WroteRecords form s (Err refusal.UnknownForm) before before
  unfolding records_answer
  no_form e = record { answer = rw (not_serial form e); left = refl }

  module _ (known : length_of form ≡ 0 → ⊥) where
    pub no_room : length before / 11 < length s → WroteRecords form s (Err refusal.ShortBuffer) before before
    unfolding records_answer
    no_room h = record { answer = rw (some_serial form known, lt-leb (length s) (length before / 11) h); left = refl }

    pub begins : length s ≤ length before / 11 → Progress form s before before 0 0 0
    begins room =
        record {
          known = known;
          room = room;
          inside = omega arith;
          few = omega arith;
          short = omega arith;
          same_room = refl;
          counted = omega arith;
          sized = omega arith;
          stored = refl;
        }

module _ {form : ℕ} {s before out : List ℕ} {telegrams bytes start : ℕ} (i : Progress form s before out telegrams bytes start)
    {a : Result search.Found Refusal} (answer : a ≡ search_of form s start) where
  pub wrote_all : {x : Refusal} → a ≡ Err x → WroteRecords form s (listed telegrams bytes) before out
  unfolding records_answer printed
  wrote_all {x} e =
      let last = no_more form i.known s start a answer x e in
      let all = records_in form s in
      let count : telegrams ≡ length all = omega (arith, i.counted, ap length last) in
      let size : bytes ≡ length (printed all) = omega (arith, i.sized, ap (λ (rs : List Record). length (printed rs)) last) in
      let z : 0 + length (printed all) ≡ length (printed all) = omega arith in
      let laid = sets-eq (printed all) before 0 (omega (arith, i.inside, i.short, i.room)) in
      record {
        answer = rw (some_serial form i.known, le-leb (length s) (length before / 11) i.room, count, size);
        left = sym (i.stored ∙ rw last) ∙ laid ∙ rw (z, size);
      }

  module _ {p : ℕ} {r : Record} (e : a ≡ Ok (record { at = p; told = r })) where
    first : FirstAt (length_of form) (valid_of form) s start p r
    first = first_at form i.known s start a answer p r e

    pub good : is_good r ≡ true
    good = valid_good form (window (length_of form) s p) r first.there

    pub fits : bytes + 175 ≤ length out
    fits = omega (arith, first.from_start, first.inside, length_least form i.known, i.short, i.same_room, i.room)

    module _ (n k : ℕ) (is : n ≡ length_of form) (long : k ≡ length (paragraph r)) where
      pub ends_inside : (p + n ≤ length s) × (bytes + k ≤ length out)
      ends_inside = (omega (arith, first.inside), omega (arith, fits, paragraph_most r good))

      pub goes_on : (y : List ℕ) → y ≡ paragraph r ++ drop k (take (bytes + 175 - bytes) (drop bytes out))
          → (start < p + n) × Progress form s before (take bytes out ++ (y ++ drop (bytes + 175 - bytes) (drop bytes out))) (telegrams + 1) (bytes + k) (p + n)
      unfolding printed
      goes_on y h =
          let next = one_more form i.known s start a answer p r e in
          let most = paragraph_most r good in
          let least = length_least form i.known in
          let rest = records_from form s (p + length_of form) in
          let put = part_stored out bytes (bytes + 175 - bytes) (omega (arith, fits)) y (paragraph r) k (omega arith) long h in
          let size = ap (λ (rs : List Record). length (printed rs)) next ∙ length-append (paragraph r) (printed rest) in (
            omega (arith, first.from_start),
            rw (put, is)
                (record {
                  known = i.known;
                  room = i.room;
                  inside = first.inside;
                  few = omega (arith, i.few, first.from_start);
                  short = omega (arith, i.short, first.from_start);
                  same_room = length-sets out bytes (paragraph r) ∙ i.same_room;
                  counted = omega (arith, i.counted, ap length next);
                  sized = omega (arith, i.sized);
                  stored = i.stored ∙ rw (next, long) (sets_append (paragraph r) (printed rest) out bytes);
                }),
          )
